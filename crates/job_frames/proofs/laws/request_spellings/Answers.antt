use Rattle.job_frames.proofs.SpellingLemmas.{request_read, request_one, request_whole}
use Rattle.job_frames.proofs.FirmLemmas.{request_firm, request_reason}
use Rattle.job_frames.proofs.SpelledLemmas.{requests_spelled}
use Rattle.job_frames.proofs.laws.request_spellings.Goals as goal

pub returns : goal.returns
returns c = record {
  read = request_read;
  spelled = requests_spelled c.jobs_keep_words.ensures;
  apart = request_one;
  whole = request_whole;
  firm = request_firm;
  reasons = request_reason;
}
