-- What is known of quotes without a partner is known at each later place.
use Rattle.std.specs.Prelude.{ℕ, ◌+◌, false, List, Option}
use Rattle.std.proofs.Common.{arith}
use Rattle.pp_tokens.specs.declared.unpaired.Unpaired.{Unpaired}
use Rattle.pp_tokens.specs.parts.Unpaired.{closing_length, delimiter_length, NonePairs, KnowsUnpaired}

none_later : (partner : List ℕ → Option ℕ) (byte : ℕ) (text : List ℕ) (at n bound : ℕ) → NonePairs partner byte text at bound → NonePairs partner byte text (at + n) bound
none_later partner byte text at n bound h place from below is = h place (omega (arith, from)) below is

pub known_later : (known : Unpaired) (text : List ℕ) (at n : ℕ) → KnowsUnpaired known text at → KnowsUnpaired known text (at + n)
known_later known text at n k = record {
  strings = none_later (closing_length 34 false) 34 text at n known.strings k.strings;
  characters = none_later (closing_length 39 false) 39 text at n known.characters k.characters;
  angles = none_later (delimiter_length 62) 60 text at n known.angles k.angles;
  quotes = none_later (delimiter_length 34) 34 text at n known.quotes k.quotes;
}
