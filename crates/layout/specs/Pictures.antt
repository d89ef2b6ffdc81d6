-- The pictures of a report's lines: the type's digits, a number in each value's columns, and any printable byte elsewhere.
use Rattle.std.specs.Prelude.{ℕ, zero, suc, ◌-◌, List, [], ◌∷◌, ◌++◌}
use Rattle.columns.specs.Columns.{put}
use Rattle.columns.specs.Picture.{field_picture}
use Rattle.layout.specs.Layout.{type_start, type_digits, length_of, values_of}
use Rattle.layout.specs.declared.RecordType.{RecordType}
use Rattle.layout.specs.declared.values.Value.{Value}

-- columns of which nothing is known
abbrev pub any_bytes : ℕ → List ℕ
any_bytes zero = []
any_bytes (suc n) = 126 ∷ any_bytes n

abbrev pub pictured : List Value → List ℕ → List ℕ
pictured [] line = line
pictured (v ∷ vs) line = pictured vs (put v.start (field_picture v.width v.decimals) line)

unfoldable pub picture_of : RecordType → List ℕ
picture_of t = put type_start (type_digits t) (pictured (values_of t) (any_bytes (length_of t)))

-- no line is longer
abbrev pub picture_width : ℕ
picture_width = 64

-- all of one length
unfoldable pub whole_picture : RecordType → List ℕ
whole_picture t = picture_of t ++ any_bytes (picture_width - length_of t)
