-- Rows that are those of the paper: each is the figure at its place, and the type of the line that a number names is searched from the first on.
use Rattle.std.specs.Prelude.{ℕ, ◌+◌, ◌<◌, ◌≡◌, List, map, Bool, true, false, cond, eqb, get_or, drop, length}
use Rattle.std.proofs.Common.{sym, ap, ◌∙◌, arith, eq-eqb, ne_eqb}
use Rattle.std.proofs.lemmas.List.{length-map}
use Rattle.exact.specs.Logic.{mapped_at}
use Rattle.refusals.specs.Refusals.{fault_number}
use Rattle.judging.specs.Judged.{PaperRow, row_told, figure_of, figure_rows, figure_count, figure_at, Tried, figures_tried, type_among}
use Rattle.judging.specs.declared.FigureRow.{FigureRow}
use Rattle.formulas.specs.declared.hour.Quantity.TheVariants.{Co2}
use Rattle.judging.proofs.JudgedLaws.{drop_figure}

module _ (rows : List FigureRow) (paper : map row_told rows ≡ figure_rows) (none : FigureRow) (j : ℕ) (h : j < figure_count) where
  pub row_at : row_told (get_or rows j none) ≡ figure_at j
  row_at =
      let l = ap length paper in
      sym (mapped_at row_told rows none (figure_of Co2) j (omega (arith, length-map rows row_told)))
      ∙ ap (λ (rs : List PaperRow). get_or rs j (figure_of Co2)) paper

  module _ (number : ℕ) where
    searched : (same : Bool) → eqb (fault_number (get_or rows j none).fault) number ≡ same →
        type_among (drop j figures_tried) number ≡ cond same (get_or rows j none).record_type (type_among (drop (j + 1) figures_tried) number)
    searched same e =
        ap (λ (ts : List Tried). type_among ts number) (drop_figure j h)
        ∙ ap (λ (r : PaperRow). cond (eqb r.number number) r.record_type (type_among (drop (j + 1) figures_tried) number)) (sym row_at)
        ∙ ap (λ (t : Bool). cond t (get_or rows j none).record_type (type_among (drop (j + 1) figures_tried) number)) e

    pub row_names : fault_number (get_or rows j none).fault ≡ number → (get_or rows j none).record_type ≡ type_among (drop j figures_tried) number
    row_names e = sym (searched true (eq-eqb _ _ e))

    pub row_passed : (fault_number (get_or rows j none).fault ≡ number → ⊥) →
        type_among (drop (j + 1) figures_tried) number ≡ type_among (drop j figures_tried) number
    row_passed n = sym (searched false (ne_eqb _ _ n))
