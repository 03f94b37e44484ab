-- Each law is a lemma of `FrameParts`.
use Rattle.std.proofs.Common.{◌∙◌, inl, inr}
use Rattle.tree_model.proofs.FrameParts.{locate-same, locate-fails_or_is}
use Rattle.tree_model.proofs.frame.frame_law.Goals as goal

pub returns-clause-found : goal.returns-clause-found
returns-clause-found c part whole dir text l sub e agree = locate-same part whole sub dir text l e agree

pub returns-clause-not_found : goal.returns-clause-not_found
returns-clause-not_found c part whole dir text sub e = elim (locate-fails_or_is part whole sub dir text) [ inl f ↦ f | inr f ↦ f ∙ e ]

pub returns-clause-either : goal.returns-clause-either
returns-clause-either c part whole dir text sub = locate-fails_or_is part whole sub dir text
