use Rattle.std.proofs.Common.{◌≡◌, ◌≤◌, ◌+◌, ◌-◌, length, Some, sym, ap, subst, ◌∙◌, arith}
use Rattle.std.specs.Prelude.{IfSome}
use Rattle.pp_tokens.specs.Marks.{is_close}
use Rattle.pp_tokens.specs.Tokens.{token_seen, rest_of}
use Rattle.macro_defs.specs.Defining.{IsParted, parameters_of}
use Rattle.macro_defs.proofs.Forms.{reads_parameters}
use Rattle.macro_defs.proofs.shared_function.parameters_ahead.Goals as goal

pub returns : goal.returns
returns c =
    let parted : IsParted is_close (rest_of c.next.new.self) c.in-Some-2.within.items (rest_of c.take_within.new.behind) =
    subst (λ o. IfSome o (λ w. IsParted is_close (rest_of c.next.new.self) w.items (rest_of c.take_within.new.behind))) c.in-Some-2.is c.in_ok-within.ensures in
    let listed = subst (λ o. IfSome o (λ p. (parameters_of c.as_slice.result.now ≡ Some (record { names = p.0; variadic = p.1 })) × (length p.0 ≤ 8))) c.in-Some-3.is c.in_ok-params.ensures in
    let many : c.len.result ≡ length c.in-Some-2.within.items = omega (arith, c.len.ensures, c.in-Some-2.within.ok.0) in (
      reads_parameters (rest_of c.args.behind.now) (rest_of c.next.new.self) (rest_of c.take_within.new.behind) c.in-Some-2.within.items (token_seen c.in-Some.open) c.in-Some-3.params c.in-Some-3.variadic (c.len.result + 3 - 1)
          c.in-Some.ensures.steps (sym c.if-not-opens_parameters.ensures) parted (ap parameters_of (sym c.as_slice.ensures.value) ∙ listed.0) (omega (arith, many)),
      (omega arith, listed.1),
    )
