use Rattle.std.proofs.Common.{w8}
use Rattle.std.proofs.lemmas.Simd.{below_from_Fits}
use Rattle.pp_tokens.proofs.RunLanes.{word_mask}
use Rattle.pp_tokens.proofs.run.WordClass.others.Goals as goal

pub returns : goal.returns
returns c = word_mask c.args.bytes c.fits-bytes.0 (below_from_Fits w8 c.args.bytes c.fits-bytes.1)
