-- The lines of a file, from its elements one after another.
use Rattle.std.specs.Prelude.{◌≡◌, Bool, true, false, cond, List, [], ◌∷◌, ◌++◌, map, refl}
use Rattle.std.proofs.Common.{sym, ◌∙◌, ap, append_assoc}
use Rattle.std.proofs.lemmas.List.{append-nil}
use Rattle.pp_tokens.specs.declared.token.Token.{Token}
use Rattle.pp_tokens.specs.parts.Gathered.{lines_left}
use Rattle.pp_tokens.specs.Phases.{Cell}
use Rattle.pp_tokens.specs.Lines.{Part, newline, white, comment, open_comment, token, Element, cut_at_newlines, onto_first, line_tokens}

-- the same from the lines that the elements are cut into
abbrev onto : Bool → List Token → Bool → List (List Element) → List (List Token)
onto begun current space [] = cond begun (current ∷ []) []
onto begun current space (l ∷ ls) = (current ++ line_tokens space l) ∷ map (line_tokens true) ls

fresh_line : (ls : List (List Element)) → onto false [] true ls ≡ map (line_tokens true) ls
fresh_line [] = refl
fresh_line (l ∷ ls) = refl

on_token : (begun space : Bool) (current : List Token) (e : Element) (x : Token) (ls : List (List Element)) → ((l : List Element) → line_tokens space (e ∷ l) ≡ x ∷ line_tokens false l)
    → onto true (current ++ (x ∷ [])) false ls ≡ onto begun current space (onto_first e ls)
unfolding line_tokens
on_token begun space current e x [] h = sym (ap (λ (l : List Token). (current ++ l) ∷ []) (h []))
on_token begun space current e x (l ∷ ls) h =
    ap (λ (k : List Token). k ∷ map (line_tokens true) ls) (append_assoc current (x ∷ []) (line_tokens false l) ∙ sym (ap (λ (k : List Token). current ++ k) (h l)))

on_white : (begun space : Bool) (current : List Token) (e : Element) (ls : List (List Element)) → ((l : List Element) → line_tokens space (e ∷ l) ≡ line_tokens true l)
    → onto true current true ls ≡ onto begun current space (onto_first e ls)
unfolding line_tokens
on_white begun space current e [] h = ap (λ (k : List Token). k ∷ []) (sym (ap (λ (l : List Token). current ++ l) (h []) ∙ append-nil current))
on_white begun space current e (l ∷ ls) h = ap (λ (k : List Token). k ∷ map (line_tokens true) ls) (ap (λ (k : List Token). current ++ k) (sym (h l)))

abbrev element : Part → List Cell → Element
element p cs = record { part = p; cells = cs }

joined_step : (p : Part) (cs : List Cell) (begun : Bool) (current : List Token) (space : Bool) (es : List Element)
    → ((begun' : Bool) (current' : List Token) (space' : Bool) → lines_left begun' current' space' es ≡ onto begun' current' space' (cut_at_newlines es))
    → lines_left begun current space (element p cs ∷ es) ≡ onto begun current space (cut_at_newlines (element p cs ∷ es))
unfolding lines_left cut_at_newlines line_tokens
joined_step newline cs begun current space es ih =
    ap (λ (ls : List (List Token)). current ∷ ls) (ih false [] true ∙ fresh_line (cut_at_newlines es))
    ∙ ap (λ (l : List Token). l ∷ map (line_tokens true) (cut_at_newlines es)) (sym (append-nil current))
joined_step (token k) cs begun current space es ih =
    ih true _ false ∙ on_token begun space current (element (token k) cs) _ (cut_at_newlines es) (λ l. refl)
joined_step white cs begun current space es ih = ih true current true ∙ on_white begun space current (element white cs) (cut_at_newlines es) (λ l. refl)
joined_step comment cs begun current space es ih = ih true current true ∙ on_white begun space current (element comment cs) (cut_at_newlines es) (λ l. refl)
joined_step open_comment cs begun current space es ih = ih true current true ∙ on_white begun space current (element open_comment cs) (cut_at_newlines es) (λ l. refl)

joined_is : (begun : Bool) (current : List Token) (space : Bool) (es : List Element) → lines_left begun current space es ≡ onto begun current space (cut_at_newlines es)
unfolding lines_left cut_at_newlines
joined_is begun current space [] = refl
joined_is begun current space (e ∷ es) = joined_step e.part e.cells begun current space es (λ b c s. joined_is b c s es)

-- the lines of all elements, from the start
pub lines_joined : (es : List Element) → map (line_tokens true) (cut_at_newlines es) ≡ lines_left false [] true es
lines_joined es = sym (joined_is false [] true es ∙ fresh_line (cut_at_newlines es))
