-- Lemmas on runs of clients.
--     Histories, TurnLaws, Worlds, TurnRuns    the memo's history, a turn, the world between turns, and turns of several clients
--     Begins, InOrder, Parts, Counts, Runs     the beginning of a run, its records in order, each client's part, its totals, all of it
--     LookBounds, RunBounds                    how often a job looks into the memo, and sums over the works of a run
--     Enough                                   the entries of a job are enough
mod Histories
mod Worlds
mod TurnRuns
mod TurnLaws
mod InOrder
mod Parts
mod Counts
mod Begins
mod Runs
mod LookBounds
mod RunBounds
mod Enough
