-- What the tests of a line by its type's picture come to.
use Rattle.std.proofs.Common.{◌≡◌, ℕ, ◌<◌, List, length, take, drop, get_or, true, sym, ap, ap₂, ◌∙◌, arith}
use Rattle.columns.specs.Bytes.{same}
use Rattle.columns.specs.Columns.{columns}
use Rattle.columns.specs.Picture.{FitsFrom, Fits}
use Rattle.layout.specs.Layout.{length_of}
use Rattle.layout.specs.Pictures.{picture_of, whole_picture}
use Rattle.layout.proofs.PictureLaws.{picture_length, picture_taken}
use Rattle.layout.specs.declared.RecordType.{RecordType}
use Rattle.lines.specs.Pictured.{Pictured}
use Rattle.lines.proofs.Pictures.{pictured}

-- the part of the picture that the line has
taken : (t : RecordType) (long : ℕ) (picture : List ℕ) → long ≡ length_of t → picture ≡ whole_picture t → take long picture ≡ picture_of t
taken t long picture l p = ap₂ (λ (n : ℕ) (bytes : List ℕ). take n bytes) l p ∙ picture_taken t

pub picture_cut : (long : ℕ) (picture : List ℕ) (t : RecordType) → long ≡ length_of t → picture ≡ whole_picture t → long ≡ length (take long picture)
picture_cut long picture t l p = l ∙ sym (picture_length t) ∙ sym (ap length (taken t long picture l p))

pub fitting_line : (facility : List ℕ) (t : RecordType) (rest : List ℕ) (long : ℕ) (picture : List ℕ) → long ≡ length_of t → picture ≡ whole_picture t →
    long < length rest → get_or rest long 0 ≡ 10 → FitsFrom 0 (length (take long picture)) (take long picture) rest →
    same (take 6 (drop 3 rest)) (take 6 (drop 3 facility)) ≡ true → Pictured facility t rest
unfolding columns
fitting_line facility t rest long picture l p more end fits named =
    let f : Fits (picture_of t) rest = rw (taken t long picture l p) at fits in
    pictured t facility rest (omega (arith, l)) (ap (λ (n : ℕ). get_or rest n 0) (sym l) ∙ end) f named
