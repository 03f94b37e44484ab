use Rattle.std.proofs.Common.{◌≡◌, ◌++◌, List, ℕ, Ok, refl, ap, sym, ◌∙◌}
use Rattle.std.proofs.lemmas.Iterator.Adapters.{items_from_extend, YieldsList-from_vec}
use Rattle.job_frames.proofs.writers.text_reply.Goals as goal

pub returns : goal.returns
returns c =
    let front = c.in_ok-front.front.items in
    let old = c.in_ok-bytes.bytes.items in
    let ran = c.in_ok-splice.ensures.items in
    let put : c.splice.new.self.items ≡ front ++ old =
    items_from_extend {E = ℕ} {P = λ (xs : List ℕ). c.splice.new.self.items ≡ xs ++ old} (Ok tt) (ran.0, ran.1, refl, ran.4, ran.3) (YieldsList-from_vec front ran.2.0 (ran.2.1 ∙ search)) in
    c.of.ensures ∙ put ∙ ap (λ (text : List ℕ). front ++ text) c.in_ok-bytes.ensures ∙ c.in_ok-front.ensures c.args.text (sym c.len.ensures)
