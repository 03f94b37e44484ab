use Rattle.memo_examples.proofs.shared.one_client_shares_a_memo.Given as goal

abbrev pub ghosts-check_one_client-L-Ledger : goal.ghosts-check_one_client-L-Ledger
ghosts-check_one_client-L-Ledger g a = record { name = a.looks.name; parts = a.looks.parts }

abbrev pub ghosts-check_one_client-H-Ledger : goal.ghosts-check_one_client-H-Ledger
ghosts-check_one_client-H-Ledger g a = record { name = a.hits.name; parts = a.hits.parts }

abbrev pub ghosts-check_one_client-P-Ledger : goal.ghosts-check_one_client-P-Ledger
ghosts-check_one_client-P-Ledger g a = record { name = a.publications.name; parts = a.publications.parts }

abbrev pub ghosts-check_one_client-N-Ledger : goal.ghosts-check_one_client-N-Ledger
ghosts-check_one_client-N-Ledger g a = record { name = a.news.name; parts = a.news.parts }

abbrev pub ghosts-check_one_client-F-Ledger : goal.ghosts-check_one_client-F-Ledger
ghosts-check_one_client-F-Ledger g a = record { name = a.fulls.name; parts = a.fulls.parts }
