-- Type by type.
use mathlib.Core.Path.{refl, sym, ap, ◌∙◌}
use Prim.Native.Nat.{◌<◌}
use native.Mathlib.Omega.{arith}
use Rattle.layout.specs.Layout.{value_count, value_at}
use Rattle.layout.specs.declared.RecordType.TheVariants.{Facility, So2Concentration, NoxConcentration, Co2Concentration}
use Rattle.layout.specs.declared.RecordType.TheVariants.{VolumetricFlow, Operation, So2Mass, NoxRate, Co2Mass}
use Rattle.layout.proofs.RecordValues.{nth, last_value}
use Rattle.layout.proofs.value_at.Statement.{statement}
use Rattle.layout.proofs.value_at.Tie as tie

enum_told : tie.Need-enum_told-1
enum_told c = c.in-Facility-1.keys1

enum-told-2 : tie.Need-enum_told-in-So2Concentration
enum-told-2 c = c.in-So2Concentration-1.keys2

enum-told-3 : tie.Need-enum_told-in-NoxConcentration
enum-told-3 c = c.in-NoxConcentration-1.keys3

enum-told-4 : tie.Need-enum_told-in-Co2Concentration
enum-told-4 c = c.in-Co2Concentration-1.keys4

enum-told-5 : tie.Need-enum_told-in-VolumetricFlow
enum-told-5 c = c.in-VolumetricFlow-1.keys5

enum-told-6 : tie.Need-enum_told-in-Operation
enum-told-6 c = c.in-Operation-1.keys6

enum-told-7 : tie.Need-enum_told-in-QuarterTotals
enum-told-7 c = c.in-QuarterTotals-1.keys7

total-at-requires : tie.Need-total_at-requires
total-at-requires c κs = rw c.in-QuarterTotals.is at c.before.requires

enum-told-8 : tie.Need-enum_told-in-So2Mass
enum-told-8 c = c.in-So2Mass-1.keys8

enum-told-9 : tie.Need-enum_told-in-NoxRate
enum-told-9 c = c.in-NoxRate-1.keys9

enum-told-10 : tie.Need-enum_told-in-Co2Mass
enum-told-10 c = c.in-Co2Mass-1.keys10

returns : tie.Need-returns-in-Facility
returns c = let h : c.before.args.i < value_count Facility = rw c.in-Facility.is at c.before.requires in absurd (omega arith)

returns-2 : tie.Need-returns-in-So2Concentration
returns-2 c = last_value So2Concentration 0 _ _ c.in-So2Concentration.is refl c.before.requires (omega arith)

returns-3 : tie.Need-returns-in-NoxConcentration
returns-3 c = last_value NoxConcentration 0 _ _ c.in-NoxConcentration.is refl c.before.requires (omega arith)

returns-4 : tie.Need-returns-in-Co2Concentration
returns-4 c = last_value Co2Concentration 0 _ _ c.in-Co2Concentration.is refl c.before.requires (omega arith)

returns-5 : tie.Need-returns-in-VolumetricFlow
returns-5 c = last_value VolumetricFlow 0 _ _ c.in-VolumetricFlow.is refl c.before.requires (omega arith)

returns-6 : tie.Need-returns-in-0
returns-6 c = nth Operation 0 c.before.in-Operation.is c.in-0.is

returns-7 : tie.Need-returns-in_default
returns-7 c = let k = c.before in last_value Operation 1 _ _ k.in-Operation.is refl k.before.requires (omega arith)

returns-8 : tie.Need-returns-in-QuarterTotals
returns-8 c = let k = c.before in c.total_at.ensures ∙ ap (λ t. value_at t k.before.args.i) (sym k.in-QuarterTotals.is)

returns-9 : tie.Need-returns-in-So2Mass
returns-9 c = last_value So2Mass 0 _ _ c.in-So2Mass.is refl c.before.requires (omega arith)

returns-10 : tie.Need-returns-in-0-i
returns-10 c = nth NoxRate 0 c.before.in-NoxRate.is c.in-0-i.is

returns-11 : tie.Need-returns-in_default-i
returns-11 c = let k = c.before in last_value NoxRate 1 _ _ k.in-NoxRate.is refl k.before.requires (omega arith)

returns-12 : tie.Need-returns-in-Co2Mass
returns-12 c = last_value Co2Mass 0 _ _ c.in-Co2Mass.is refl c.before.requires (omega arith)

pub value_at_spec : {M : Type 1} → statement M
value_at_spec =
    tie.close
    (tie.spec
    enum_told
    enum-told-2
    enum-told-3
    enum-told-4
    enum-told-5
    enum-told-6
    enum-told-7
    total-at-requires
    enum-told-8
    enum-told-9
    enum-told-10
    returns
    returns-2
    returns-3
    returns-4
    returns-5
    returns-6
    returns-7
    returns-8
    returns-9
    returns-10
    returns-11
    returns-12)
