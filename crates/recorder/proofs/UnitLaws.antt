-- A float taken apart, its channel's row and the units counted: what the code then decides.
use Rattle.std.specs.Prelude.{◌≡◌, ℕ, ◌*◌, ◌≤◌, ◌<◌, ◌^◌, true, false, Some, Float}
use Rattle.std.proofs.Common.{sym, ap, ◌∙◌, pow_pos}
use Rattle.layout.specs.Values.{in_range}
use Rattle.layout.specs.LayoutLaws.{in_range_true}
use Rattle.sheet.specs.Sheet.{value_size}
use Rattle.recorder.specs.Recording.{units_in, column_of, recording_unit, column_number, float_fault}
use Rattle.recorder.specs.Parts.{float_scale, PartsOf, parts_count, channel_row}
use Rattle.recorder.specs.declared.Parts.{Parts}
use Rattle.recorder.specs.declared.ChannelRow.{ChannelRow}
use Rattle.recorder.specs.declared.Channel.{Channel}
use Rattle.recorder.proofs.CountLaws.{count_exact}
use Rattle.recorder.proofs.ChannelLaws.{most_held, beyond}
use Rattle.recorder.proofs.RecorderLaws.{fault_46, fault_none}

module _ (c : Channel) (x : Float) (p : Parts) (k : PartsOf x (Some p)) where
  pub far_outside : float_scale ≤ p.exponent → 46 ≡ float_fault c x
  far_outside h = fault_46 c x k.is_usable (beyond c x p k h)

  counted : parts_count p (channel_row c).unit ≡ units_in (recording_unit c) x
  counted = sym (count_exact (recording_unit c) x (p.significand * 2 ^ p.exponent) (2 ^ float_scale) (pow_pos float_scale) k.exact)

  module _ (row : ChannelRow) (r : row ≡ channel_row c) (units : ℕ) (n : (units ≡ parts_count p row.unit) × (units ≤ row.unit.den * 2 ^ 53)) where
    units_are : units ≡ units_in (recording_unit c) x
    units_are = n.0 ∙ ap (λ (w : ChannelRow). parts_count p w.unit) r ∙ counted

    pub units_outside : in_range row.column (row.column.step * units) ≡ false → 46 ≡ float_fault c x
    units_outside e = fault_46 c x k.is_usable (rw (r, units_are) at e)

    pub units_inside : in_range row.column (row.column.step * units) ≡ true →
        (0 ≡ float_fault c x) × (units < value_size) × (units ≡ units_in (recording_unit c) x)
    units_inside e =
        let i : in_range (column_of c) (column_number c x) ≡ true = rw (r, units_are) at e in
        (fault_none c x k.is_usable i, rw units_are (most_held c _ (in_range_true (column_of c) (column_number c x) i).1), units_are)
