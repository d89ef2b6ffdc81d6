-- The table of what the check answers to a file: a row for an acceptance, and one for each pass that refuses, with the line that it
-- names. TableLaws.antt proves that every answer is of one of them. Why a figure is refused, Promise.antt says.
use Rattle.std.specs.Prelude.{ℕ, Bool, ◌&&◌, ◌||◌, eqb, leb}
use mathlib.Core.List.{List, Memᴰ}
use Rattle.layout.specs.declared.RecordType.TheVariants.{QuarterTotals}
use Rattle.totals.specs.declared.Quarter.{Quarter}
use Rattle.lines.specs.Clauses.{of_line_checks}
use Rattle.reading.specs.Recorded.{HasRecord}
use Rattle.reading.specs.Refused.{RefusedBy}
use Rattle.judging.specs.Judged.{Tried, figures_tried, Stated, stated_totals, acceptance}
use Rattle.checker.specs.Checked.{refusal}

pub data InTable (file : List ℕ) : List ℕ → Type 0 where
  accepted : (r : Quarter) → InTable file (acceptance r)
  -- 1 to 10, 43, 47 and 49: the file or a line, the lines before it being right
  of_lines : (number line : ℕ) → RefusedBy file number line → InTable file (refusal number line)
  -- 11 to 14: a figure, on a line of its type
  of_figure : (t : Tried) (line : ℕ) → Memᴰ t figures_tried → HasRecord file t.type line → InTable file (refusal t.number line)
  -- 21 to 24 and 48: a total, on line 301
  of_total : (t : Stated) (line : ℕ) → Memᴰ t stated_totals → HasRecord file QuarterTotals line → InTable file (refusal t.number line)

-- the ranges in which the table's numbers lie
abbrev pub of_check : ℕ → Bool
of_check number = of_line_checks number || (leb 11 number && leb number 14) || (leb 21 number && leb number 24) || eqb number 48
