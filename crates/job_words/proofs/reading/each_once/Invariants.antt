use Rattle.std.proofs.Common.{◌≡◌, take}
use Rattle.job_words.specs.Words.{each_once}
use Rattle.job_words.specs.parts.Told.{HasTexts}
use Rattle.job_words.proofs.reading.each_once.Given as goal

abbrev pub invariant-loop-text : goal.invariant-loop-text
invariant-loop-text l = record { texts : l.list ≡ each_once (take l.text-index l.texts); seen : HasTexts l.seen l.list }
