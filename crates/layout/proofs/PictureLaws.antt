-- Every picture has its line's length, printable bytes, the type's digits in front, and of each value the picture of its field.
use Rattle.std.specs.Prelude.{◌≡◌, refl, Bool, true, ℕ, ◌<◌, eqb, length, take}
use Rattle.std.proofs.Common.{eqb-true}
use Rattle.columns.specs.Bytes.{is_printable, all, same}
use Rattle.columns.proofs.BytesLaws.{same_eq}
use Rattle.columns.specs.Columns.{columns, put}
use Rattle.columns.specs.Written.{digits_of}
use Rattle.columns.specs.Picture.{is_plain, blanks, nines, field_picture}
use Rattle.layout.specs.Layout.{length_of, type_width, type_digits, value_count, value_at}
use Rattle.layout.specs.LayoutLaws.{each}
use Rattle.layout.proofs.ValueLaws.{each_value}
use Rattle.layout.specs.Pictures.{picture_of, whole_picture}
use Rattle.layout.specs.declared.values.Value.{Value}
use Rattle.layout.specs.declared.RecordType.{RecordType}

pub picture_length : (t : RecordType) → length (picture_of t) ≡ length_of t
unfolding picture_of put digits_of field_picture blanks nines
picture_length t = eqb-true _ _ (each (λ t. eqb (length (picture_of t)) (length_of t)) refl t)

pub picture_printable : (t : RecordType) → all is_printable (picture_of t) ≡ true
unfolding picture_of put digits_of field_picture blanks nines all
picture_printable t = each (λ t. all is_printable (picture_of t)) refl t

pub picture_type : (t : RecordType) → take type_width (picture_of t) ≡ type_digits t
unfolding picture_of put digits_of field_picture blanks nines same
picture_type t = (same_eq _ _).0 (each (λ t. same (take type_width (picture_of t)) (type_digits t)) refl t)

pub picture_plain : (t : RecordType) → all is_plain (take type_width (picture_of t)) ≡ true
unfolding picture_of put digits_of field_picture blanks nines all
picture_plain t = each (λ t. all is_plain (take type_width (picture_of t))) refl t

-- the picture that is longer
pub picture_taken : (t : RecordType) → take (length_of t) (whole_picture t) ≡ picture_of t
unfolding whole_picture picture_of put digits_of field_picture blanks nines same
picture_taken t = (same_eq _ _).0 (each (λ t. same (take (length_of t) (whole_picture t)) (picture_of t)) refl t)

-- the fields of the values
abbrev has_field : RecordType → Value → Bool
has_field t v = same (columns v.start v.width (picture_of t)) (field_picture v.width v.decimals)

pub picture_field : (t : RecordType) (i : ℕ) → i < value_count t →
    columns (value_at t i).start (value_at t i).width (picture_of t) ≡ field_picture (value_at t i).width (value_at t i).decimals
unfolding same columns picture_of put digits_of field_picture blanks nines
picture_field t i h = (same_eq _ _).0 (each_value has_field refl t i h)
