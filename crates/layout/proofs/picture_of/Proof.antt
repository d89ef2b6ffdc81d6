-- `layout::picture_of` meets its contract, type by type.
use mathlib.Core.Path.{sym, ap}
use Rattle.columns.specs.Written.{digits_of}
use Rattle.columns.specs.Columns.{put}
use Rattle.columns.specs.Picture.{blanks, nines, field_picture}
use Rattle.layout.specs.Pictures.{picture_of, whole_picture}
use Rattle.layout.proofs.picture_of.Statement.{statement}
use Rattle.layout.proofs.picture_of.Tie as tie

enum_told : tie.Need-enum_told-1
enum_told c = c.in-Facility-1.keys1

enum-told-2 : tie.Need-enum_told-in-So2Concentration
enum-told-2 c = c.in-So2Concentration-1.keys2

enum-told-3 : tie.Need-enum_told-in-NoxConcentration
enum-told-3 c = c.in-NoxConcentration-1.keys3

enum-told-4 : tie.Need-enum_told-in-Co2Concentration
enum-told-4 c = c.in-Co2Concentration-1.keys4

enum-told-5 : tie.Need-enum_told-in-VolumetricFlow
enum-told-5 c = c.in-VolumetricFlow-1.keys5

enum-told-6 : tie.Need-enum_told-in-Operation
enum-told-6 c = c.in-Operation-1.keys6

enum-told-7 : tie.Need-enum_told-in-QuarterTotals
enum-told-7 c = c.in-QuarterTotals-1.keys7

enum-told-8 : tie.Need-enum_told-in-So2Mass
enum-told-8 c = c.in-So2Mass-1.keys8

enum-told-9 : tie.Need-enum_told-in-NoxRate
enum-told-9 c = c.in-NoxRate-1.keys9

enum-told-10 : tie.Need-enum_told-in-Co2Mass
enum-told-10 c = c.in-Co2Mass-1.keys10

returns : tie.Need-returns-in-Facility
unfolding whole_picture picture_of put digits_of field_picture blanks nines
returns c = ap whole_picture (sym c.before.before.in-Facility.is)

returns-2 : tie.Need-returns-in-So2Concentration
unfolding whole_picture picture_of put digits_of field_picture blanks nines
returns-2 c = ap whole_picture (sym c.before.before.in-So2Concentration.is)

returns-3 : tie.Need-returns-in-NoxConcentration
unfolding whole_picture picture_of put digits_of field_picture blanks nines
returns-3 c = ap whole_picture (sym c.before.before.in-NoxConcentration.is)

returns-4 : tie.Need-returns-in-Co2Concentration
unfolding whole_picture picture_of put digits_of field_picture blanks nines
returns-4 c = ap whole_picture (sym c.before.before.in-Co2Concentration.is)

returns-5 : tie.Need-returns-in-VolumetricFlow
unfolding whole_picture picture_of put digits_of field_picture blanks nines
returns-5 c = ap whole_picture (sym c.before.before.in-VolumetricFlow.is)

returns-6 : tie.Need-returns-in-Operation
unfolding whole_picture picture_of put digits_of field_picture blanks nines
returns-6 c = ap whole_picture (sym c.before.before.in-Operation.is)

returns-7 : tie.Need-returns-in-QuarterTotals
unfolding whole_picture picture_of put digits_of field_picture blanks nines
returns-7 c = ap whole_picture (sym c.before.before.in-QuarterTotals.is)

returns-8 : tie.Need-returns-in-So2Mass
unfolding whole_picture picture_of put digits_of field_picture blanks nines
returns-8 c = ap whole_picture (sym c.before.before.in-So2Mass.is)

returns-9 : tie.Need-returns-in-NoxRate
unfolding whole_picture picture_of put digits_of field_picture blanks nines
returns-9 c = ap whole_picture (sym c.before.before.in-NoxRate.is)

returns-10 : tie.Need-returns-in-Co2Mass
unfolding whole_picture picture_of put digits_of field_picture blanks nines
returns-10 c = ap whole_picture (sym c.before.before.in-Co2Mass.is)

pub picture_of_spec : {M : Type 1} → statement M
picture_of_spec =
    tie.close
    (tie.spec
    enum_told
    enum-told-2
    enum-told-3
    enum-told-4
    enum-told-5
    enum-told-6
    enum-told-7
    enum-told-8
    enum-told-9
    enum-told-10
    returns
    returns-2
    returns-3
    returns-4
    returns-5
    returns-6
    returns-7
    returns-8
    returns-9
    returns-10)
