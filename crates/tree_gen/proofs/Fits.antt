-- No file is larger than files may be, nor is the list.
use Rattle.std.proofs.Common.{◌≡◌, ℕ, ◌+◌, ◌/◌, ◌%◌, ◌<◌, ◌≤◌, [], ◌++◌, length, arith, Bool, true, false, cond, length-append, ◌==◌}
use Rattle.std.specs.Prelude.{codes}
use Rattle.std.specs.Fmt.{decimal}
use Rattle.std.proofs.lemmas.Bool.{le-leb}
use Rattle.tree_model.specs.Paths.{Text}
use Rattle.tree_model.specs.Entries.{body_fits}
use Rattle.tree_model.specs.declared.entry.Entry.TheVariants.{File}
use Rattle.tree_gen.specs.Generated.{header_text, half_include_line, job_line, job_lines, macro_lines, own_header, source_file_text}
use Rattle.tree_gen.proofs.Counted.{texts_short}
use Rattle.tree_gen.proofs.Paths.{short_decimal}

-- a text has at most so many bytes
record Within (text : Text) (most : ℕ) : Type 0 where
  bytes : length text ≤ most

written : (a : Text) → Within a (length a)
written a = record { bytes = omega arith }

before : (a : Text) {b : Text} {n : ℕ} → Within b n → Within (a ++ b) (length a + n)
before a {b} {n} h = record { bytes = omega (arith, length-append a b, h.bytes) }

number_before : (k : ℕ) {b : Text} {n : ℕ} → k < 100000 → Within b n → Within (decimal k ++ b) (5 + n)
number_before k {b} {n} small h = record { bytes = omega (arith, length-append (decimal k) b, short_decimal k small, h.bytes) }

chosen : (t : Bool) (a : Text) (n : ℕ) → length a ≤ n → length (cond t [] a) ≤ n
chosen true a n h = omega arith
chosen false a n h = h

include_short : (k : ℕ) → k < 100000 → length (half_include_line k) ≤ 100
include_short k h =
    let half : k / 2 < 100000 = omega (arith, h) in
    let line = before (codes "#include \"h") (number_before (k / 2) half (written (codes ".h\"\n"))) in
    chosen (k == 0) (codes "#include \"h" ++ (decimal (k / 2) ++ codes ".h\"\n")) 100 (omega (arith, line.bytes))

macro_short : (k : ℕ) → k < 100000 → length (macro_lines k) ≤ 200
macro_short k h =
    let third : k % 3 < 100000 = omega arith in
    let function = before (codes ")\nint v") (number_before k h (before (codes "(void) { return V") (number_before k h (written (codes "; }\n"))))) in
    let lines = before (codes "#define V") (number_before k h (before (codes " (") (number_before k h (before (codes " + F") (number_before (k % 3) third function))))) in
    omega (arith, lines.bytes)

pub header_fits : (k : ℕ) → k < 100000 → body_fits (File (header_text k)) ≡ true
header_fits k h =
    let first = length-append (codes "#pragma once\n") (half_include_line k ++ macro_lines k) in
    let rest = length-append (half_include_line k) (macro_lines k) in
    le-leb (length (header_text k)) 16777216 (omega (arith, first, rest, include_short k h, macro_short k h))

pub source_fits : (j : ℕ) → j < 20000 → body_fits (File (source_file_text j)) ≡ true
source_fits j h =
    let own : own_header j < 100000 = omega (arith, h) in
    let small : j < 100000 = omega (arith, h) in
    let use_line = before (codes ".h\"\nint s") (number_before j small (before (codes " = V") (number_before (own_header j) own (written (codes ";\n"))))) in
    let text = before (codes "#define H <h") (number_before (own_header j) own (before (codes ".h>\n#include H\n#include \"h") (number_before j small use_line))) in
    le-leb (length (source_file_text j)) 16777216 (omega (arith, text.bytes))

line_short : (j : ℕ) → j < 100000 → length (job_line j) ≤ 60
line_short j h =
    let line = before (codes "/g s/s") (number_before j h (before (codes ".c -o s") (number_before j h (written (codes ".i -Ih -DF0=0 -DF1=1 -DF2=2\n"))))) in
    omega (arith, line.bytes)

pub lines_short : (n : ℕ) → n ≤ 5000 → length (job_lines n) ≤ 16777216
lines_short n few = omega (arith, few, texts_short job_line 0 n (λ j low. line_short j (omega (arith, low, few))))
