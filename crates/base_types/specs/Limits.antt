-- The limits of a run, each under one name. What goes beyond one is refused with its own words or reason; docs/FORMATS.md has the table.
-- Code has the same names in `base_types::limits`.
use Rattle.std.specs.Prelude.{ℕ}

-- bytes of a file's body
abbrev pub body_limit : ℕ
body_limit = 16777216

-- bytes of a compile list
abbrev pub list_limit : ℕ
list_limit = 16777216

-- jobs of a compile list
abbrev pub job_limit : ℕ
job_limit = 20000

-- words of a job
abbrev pub job_words_limit : ℕ
job_words_limit = 1000

-- bytes of a word, and of a job's working directory
abbrev pub word_limit : ℕ
word_limit = 4096

-- bytes of a path, and of a text that is located; a link's text is shorter
abbrev pub path_limit : ℕ
path_limit = 4096

-- bytes of a component of a path
abbrev pub name_limit : ℕ
name_limit = 255

-- links followed for one text
abbrev pub link_limit : ℕ
link_limit = 40

-- entries of a request
abbrev pub entry_limit : ℕ
entry_limit = 100000

-- bytes of a request, and of an image
abbrev pub request_limit : ℕ
request_limit = 268435456

-- visits of a job: its files, one for each way in which searches find it
abbrev pub visit_limit : ℕ
visit_limit = 50000

-- choices of definitions of a computed directive, where the words name no budget
abbrev pub default_budget : ℕ
default_budget = 4096

-- the greatest budget
abbrev pub budget_limit : ℕ
budget_limit = 65536

-- units of work of one choice of definitions
abbrev pub choice_work_limit : ℕ
choice_work_limit = 100000

-- units of work of a job
abbrev pub work_limit : ℕ
work_limit = 20000000

-- bytes of a job's text
abbrev pub text_limit : ℕ
text_limit = 67108864

-- bytes of a diagnostic
abbrev pub diagnostic_limit : ℕ
diagnostic_limit = 65536

-- how deep files include others
abbrev pub include_depth_limit : ℕ
include_depth_limit = 200

-- how deep macro arguments are expanded in others
abbrev pub argument_depth_limit : ℕ
argument_depth_limit = 400

-- how deep the expression of a condition nests
abbrev pub condition_depth_limit : ℕ
condition_depth_limit = 200

-- clients of a run
abbrev pub client_limit : ℕ
client_limit = 64

-- hosts of a run
abbrev pub host_limit : ℕ
host_limit = 64

-- slots of a host
abbrev pub slot_limit : ℕ
slot_limit = 64

-- the weight of the values that a memo keeps
abbrev pub memo_limit : ℕ
memo_limit = 4000000

-- numbers of an order of turns
abbrev pub order_limit : ℕ
order_limit = 1000000
