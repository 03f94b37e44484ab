-- A tree of headers and sources, made from a number of sources, and the list of the jobs that compile them.
use Rattle.std.specs.Prelude.{ℕ, ◌+◌, ◌*◌, ◌/◌, ◌%◌, ◌==◌, cond, [], ◌∷◌, ◌++◌, map, codes}
use Rattle.std.specs.List.{flat_map, range_with_len}
use Rattle.std.specs.List.Sorted.{IsPermutation}
use Rattle.std.specs.Fmt.{decimal}
use Rattle.tree_model.specs.Paths.{Text, Path}
use Rattle.tree_model.specs.Entries.{Entries, Increasing}
use Rattle.tree_model.specs.declared.entry.Entry.{Entry}
use Rattle.tree_model.specs.declared.entry.Entry.TheVariants.{Dir, File}

-- `/g`, and the directories of headers and of sources in it
abbrev pub top : Path
top = codes "g" ∷ []

abbrev pub header_dir : Path
header_dir = codes "h" ∷ top

abbrev pub source_dir : Path
source_dir = codes "s" ∷ top

abbrev pub header_file_name : ℕ → Text
header_file_name k = codes "h" ++ (decimal k ++ codes ".h")

abbrev pub source_name : ℕ → Text
source_name j = codes "s" ++ (decimal j ++ codes ".c")

-- each header but the first includes the one of half its number
abbrev pub half_include_line : ℕ → Text
half_include_line k = cond (k == 0) [] (codes "#include \"h" ++ (decimal (k / 2) ++ codes ".h\"\n"))

-- a header's macro, which names one of three macros of the command line, and the function that returns it
abbrev pub macro_lines : ℕ → Text
macro_lines k =
    codes "#define V" ++ (decimal k ++ (codes " (" ++ (decimal k ++ (codes " + F" ++ (decimal (k % 3)
    ++ (codes ")\nint v" ++ (decimal k ++ (codes "(void) { return V" ++ (decimal k ++ codes "; }\n")))))))))

abbrev pub header_text : ℕ → Text
header_text k = codes "#pragma once\n" ++ (half_include_line k ++ macro_lines k)

-- the last of the four headers that are the source's own
abbrev pub own_header : ℕ → ℕ
own_header j = 4 * j + 3

-- a source includes its own header by a macro, the header of its own number, and uses its own header's macro
abbrev pub source_file_text : ℕ → Text
source_file_text j =
    codes "#define H <h" ++ (decimal (own_header j) ++ (codes ".h>\n#include H\n#include \"h" ++ (decimal j ++ (codes ".h\"\nint s"
    ++ (decimal j ++ (codes " = V" ++ (decimal (own_header j) ++ codes ";\n")))))))

abbrev pub header : ℕ → Path × Entry
header k = (header_file_name k ∷ header_dir, File (header_text k))

abbrev pub source : ℕ → Path × Entry
source j = (source_name j ∷ source_dir, File (source_file_text j))

-- the nodes: three directories, four headers for each source, and the sources
abbrev pub nodes : ℕ → Entries
nodes n = (top, Dir) ∷ (header_dir, Dir) ∷ (source_dir, Dir) ∷ (map header (range_with_len 0 (4 * n)) ++ map source (range_with_len 0 n))

-- a list has these nodes, each once, in order of the bytes of their paths
pub record InOrder (nodes es : Entries) : Type 0 where
  pub same : IsPermutation nodes es
  pub order : Increasing es

-- the line of the job that compiles a source
abbrev pub job_line : ℕ → Text
job_line j = codes "/g s/s" ++ (decimal j ++ (codes ".c -o s" ++ (decimal j ++ codes ".i -Ih -DF0=0 -DF1=1 -DF2=2\n")))

abbrev pub job_lines : ℕ → Text
job_lines n = flat_map job_line (range_with_len 0 n)
