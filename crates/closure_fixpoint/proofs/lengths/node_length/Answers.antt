use Rattle.std.proofs.Common.{◌+◌, ℕ, length, sym, ◌∙◌, ap}
use Rattle.tree_model.specs.declared.entry.Entry.{Entry}
use Rattle.job_frames.specs.Spelling.{node_bytes}
use Rattle.closure_fixpoint.proofs.LengthLaws.{dir-length, file-length, link-length}
use Rattle.closure_fixpoint.proofs.lengths.node_length.Goals as goal

pub returns-in-Dir-clause-value : goal.returns-in-Dir-clause-value
returns-in-Dir-clause-value c = dir-length ∙ ap (λ (e : Entry). length (node_bytes e)) (sym c.in-Dir.is)

pub returns-in-File-clause-value : goal.returns-in-File-clause-value
returns-in-File-clause-value c = ap (λ (n : ℕ). 12 + n) c.len.ensures ∙ file-length c.in-File.body ∙ ap (λ (e : Entry). length (node_bytes e)) (sym c.in-File.is)

pub returns-in-Link-clause-value : goal.returns-in-Link-clause-value
returns-in-Link-clause-value c = ap (λ (n : ℕ). 12 + n) c.len-in-Link.ensures ∙ link-length c.in-Link.text ∙ ap (λ (e : Entry). length (node_bytes e)) (sym c.in-Link.is)
