use Rattle.std.proofs.Common.{◌≡◌, ◌≤◌, Option, length, subst}
use Rattle.std.specs.Prelude.{IfSome}
use Rattle.base_types.specs.Limits.{body_limit}
use Rattle.tree_model.specs.Paths.{Text, Path}
use Rattle.tree_model.specs.Bodies.{body_at_path}
use Rattle.closure_fixpoint.proofs.BodyLemmas.{put_known}
use Rattle.closure_fixpoint.proofs.bodies.Bodies.put.Goals as goal

pub returns-in_ok-insert : goal.returns-in_ok-insert
returns-in_ok-insert c = λ told are right.
    put_known told c.args.self.now.known c.insert.new.self c.in-Some.path c.in-Some.body c.in_ok-insert.ensures.updates
    (subst (λ (file : Option (Path × Text)). IfSome file (λ f. length f.1 ≤ body_limit)) c.in-Some.is c.requires.small)
    (λ tree is. subst (λ (file : Option (Path × Text)). IfSome file (λ f. f.1 ≡ body_at_path tree f.0)) c.in-Some.is (right tree is))
    are
