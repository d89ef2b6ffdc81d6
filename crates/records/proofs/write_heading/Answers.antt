-- Blanks, the type, the name.
use Rattle.std.proofs.Common.{ap, ap₂, ◌∙◌, ℕ, List, replicate}
use Rattle.columns.specs.Columns.{put}
use Rattle.columns.specs.Written.{digits_of}
use Rattle.layout.specs.Layout.{type_width}
use Rattle.records.specs.Records.{headed}
use Rattle.records.proofs.write_heading.Goals as goal

pub returns : goal.returns
unfolding headed
returns c =
    let blank = c.fill_with.ensures ∙ ap (λ (long : ℕ). replicate long 32) c.requires in
    c.write_bytes.ensures
    ∙ ap (put _ _)
    (c.write_digits.ensures ∙ ap₂ (λ (code : ℕ) (line : List ℕ). put 1 (digits_of type_width code) line) c.type_code.ensures blank)
