use Rattle.symbolic_expand.proofs.KeptLaws.{more_keep_runs, more_keep_headers, more_keep_long_runs, more_keep_presumed_runs, more_keep_many_runs, more_make_no_fewer, more_keep_support}
use Rattle.symbolic_expand.proofs.laws.more_definitions.Goals as goal

pub returns : goal.returns
returns g c = record {
  runs = more_keep_runs;
  headers = more_keep_headers;
  long = more_keep_long_runs;
  presumed = more_keep_presumed_runs;
  many = more_keep_many_runs;
  no_fewer = more_make_no_fewer;
  support = more_keep_support;
}
