-- Where hosts are daemons.
use Rattle.std.proofs.Common.{◌≡◌, ℕ, List, [], ◌∷◌, ◌++◌, Option, None, Some, IsSome, refl, inl, inr, ◌⊎◌}
use Rattle.std.specs.List.{AllByRecursion}
use Rattle.io_edges.specs.declared.wire.Exchange.{Exchange}
use Rattle.io_edges.specs.Talk.{IsAnswered, EachAnswered}
use Rattle.job_frames.specs.Daemon.{Daemon}
use Rattle.daemon_answers.specs.Answers.{Answers}
use Rattle.job_ends.specs.Agree.{AreServed}
use Rattle.job_ends.specs.Outside.{EndSeen}
use Rattle.pump_run.specs.Run.{EachTells, EachAnsweredBy, IsDaemon, ServedByDaemon}
use Rattle.job_ends.specs.Works.{TalkIsServed, EachServed}

module _ (peer : List ℕ → List ℕ → Type 0) (daemon : IsDaemon peer) where
  so-far : (e : Exchange) → (e.received ≡ []) ⊎ ((rest : List ℕ) × peer e.sent (e.received ++ rest)) → (e.received ≡ []) ⊎ ((rest : List ℕ) × Daemon Answers e.sent (e.received ++ rest))
  so-far e (inl nothing) = inl nothing
  so-far e (inr (rest, may)) = inr (rest, daemon e.sent (e.received ++ rest) may)

  each-served : (talk : List Exchange) → AllByRecursion (IsAnswered peer) talk → AreServed talk
  each-served [] answered = tt
  each-served (e ∷ talk) answered = (
    record { so_far = so-far e answered.0.so_far; whole = λ ended. daemon e.sent e.received (answered.0.whole ended) },
    each-served talk answered.1,
  )

  end-served : (seen : EndSeen) (talk : Option (List Exchange)) → seen.talk ≡ talk → IsSome talk → EachAnswered peer talk → TalkIsServed seen
  end-served seen None is tells answered = absurd (cc)
  end-served seen (Some talk) is tells answered = record { talk = talk; told = is; served = each-served talk answered }

  ends-served : (ends : List EndSeen) → EachTells ends → EachAnsweredBy peer ends → EachServed ends
  ends-served [] tells answered = tt
  ends-served (seen ∷ ends) tells answered = (end-served seen seen.talk refl tells.0 answered.0, ends-served ends tells.1 answered.1)

pub served-by-daemon : (peer : List ℕ → List ℕ → Type 0) → ServedByDaemon peer
served-by-daemon peer daemon ends tells answered = ends-served peer daemon ends tells answered
