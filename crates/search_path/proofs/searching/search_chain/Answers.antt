use Rattle.std.proofs.Common.{rules, ◌<◌, ◌≤◌, ◌++◌, ◌∷◌, length, sym, ◌∙◌, ap, arith, length-append}
use Rattle.base_types.specs.Ascii.{slash}
use Rattle.search_path.specs.SetupOf.{absolute}
use Rattle.search_path.specs.declared.asking.Found.TheVariants.{Chain}
use Rattle.search_path.proofs.Chains.{chain-ends, chain-hit, chain-goes-on, same-hit}
use Rattle.search_path.proofs.searching.search_chain.Goals as goal

pub returns-in-Some-clause-found : goal.returns-in-Some-clause-found
returns-in-Some-clause-found g c =
    λ told is.
    let setup = c.args.setup.now in
    let directory = c.directory_at.result.now in
    let below : c.loop-number.number < length (setup.quote ++ setup.bracket) =
    omega (arith, length-append setup.quote setup.bracket, ap length c.quote.ensures.directories, ap length c.bracket.ensures.directories, c.loop-number-test.true) in
    chain-hit told setup c.args.name.now c.loop-number.number directory c.in-Some.hit
    (record {
      below = below;
      is = c.directory_at.ensures;
      hit =
          sym c.in-Some.is
          ∙ c.in_ok-hit.ensures.found told (c.loop-number.invariant.same ∙ is)
          ∙ same-hit told (Chain c.loop-number.number) c.in_ok-root.root c.as_slice.result.now (absolute setup.cwd directory ++ slash ∷ c.args.name.now)
          c.in_ok-root.ensures (c.as_slice.ensures.value ∙ c.in_ok-put_name.ensures);
    })
    ∙ c.loop-number.invariant.found told is

pub loop-number-preserved : goal.loop-number-preserved
loop-number-preserved g c =
    record {
      same = search rules;
      later = omega (arith, c.loop-number.invariant.later, c.in_ok-hit.ensures.cause.later);
      no_read = search rules;
      found = λ told is.
          let setup = c.args.setup.now in
          let directory = c.directory_at.result.now in
          let below : c.loop-number.number < length (setup.quote ++ setup.bracket) =
          omega (arith, length-append setup.quote setup.bracket, ap length c.quote.ensures.directories, ap length c.bracket.ensures.directories, c.loop-number-test.true) in
          chain-goes-on told setup c.args.name.now c.loop-number.number directory
          (record {
            below = below;
            is = c.directory_at.ensures;
            hit =
                sym c.in_default.is
                ∙ c.in_ok-hit.ensures.found told (c.loop-number.invariant.same ∙ is)
                ∙ same-hit told (Chain c.loop-number.number) c.in_ok-root.root c.as_slice.result.now (absolute setup.cwd directory ++ slash ∷ c.args.name.now)
                c.in_ok-root.ensures (c.as_slice.ensures.value ∙ c.in_ok-put_name.ensures);
          })
          ∙ c.loop-number.invariant.found told is;
    }

pub returns-clause-found : goal.returns-clause-found
returns-clause-found g c =
    λ told is.
    let setup = c.args.setup.now in
    let past : length (setup.quote ++ setup.bracket) ≤ c.loop-number.number =
    omega (arith, length-append setup.quote setup.bracket, ap length c.quote.ensures.directories, ap length c.bracket.ensures.directories) in
    sym (chain-ends told setup c.args.name.now c.loop-number.number past) ∙ c.loop-number.invariant.found told is
