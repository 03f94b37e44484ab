use Rattle.bench_program.proofs.memo.fill_and_ask.Given as goal

abbrev pub ghosts-one_client-L-Ledger : goal.ghosts-one_client-L-Ledger
ghosts-one_client-L-Ledger g a = record { name = a.looks.name; parts = a.looks.parts }

abbrev pub ghosts-one_client-H-Ledger : goal.ghosts-one_client-H-Ledger
ghosts-one_client-H-Ledger g a = record { name = a.hits.name; parts = a.hits.parts }

abbrev pub ghosts-one_client-P-Ledger : goal.ghosts-one_client-P-Ledger
ghosts-one_client-P-Ledger g a = record { name = a.publications.name; parts = a.publications.parts }

abbrev pub ghosts-one_client-N-Ledger : goal.ghosts-one_client-N-Ledger
ghosts-one_client-N-Ledger g a = record { name = a.news.name; parts = a.news.parts }

abbrev pub ghosts-one_client-F-Ledger : goal.ghosts-one_client-F-Ledger
ghosts-one_client-F-Ledger g a = record { name = a.fulls.name; parts = a.fulls.parts }
