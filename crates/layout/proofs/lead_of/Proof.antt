-- Type by type.
use mathlib.Core.Path.{sym, ap, ◌∙◌}
use Rattle.layout.specs.Lead.{lead_of}
use borrow.Author.Rules.{rules}
use Rattle.layout.proofs.lead_of.Statement.{statement}
use Rattle.layout.proofs.lead_of.Tie as tie

enum_told : tie.Need-enum_told-1
enum_told c = c.in-Facility-1.keys1

lead-by-requires : tie.Need-lead_by-requires
lead-by-requires c κs = search rules

returns : tie.Need-returns-in-Facility
returns c = c.lead_by.ensures ∙ ap lead_of (sym c.before.in-Facility.is)

enum-told-2 : tie.Need-enum_told-in-So2Concentration
enum-told-2 c = c.in-So2Concentration-1.keys2

lead-by-requires-2 : tie.Need-lead_by-requires-in-So2Concentration
lead-by-requires-2 c κs = search rules

returns-2 : tie.Need-returns-in-So2Concentration
returns-2 c = c.lead_by-in-So2Concentration.ensures ∙ ap lead_of (sym c.before.in-So2Concentration.is)

enum-told-3 : tie.Need-enum_told-in-NoxConcentration
enum-told-3 c = c.in-NoxConcentration-1.keys3

lead-by-requires-3 : tie.Need-lead_by-requires-in-NoxConcentration
lead-by-requires-3 c κs = search rules

returns-3 : tie.Need-returns-in-NoxConcentration
returns-3 c = c.lead_by-in-NoxConcentration.ensures ∙ ap lead_of (sym c.before.in-NoxConcentration.is)

enum-told-4 : tie.Need-enum_told-in-Co2Concentration
enum-told-4 c = c.in-Co2Concentration-1.keys4

lead-by-requires-4 : tie.Need-lead_by-requires-in-Co2Concentration
lead-by-requires-4 c κs = search rules

returns-4 : tie.Need-returns-in-Co2Concentration
returns-4 c = c.lead_by-in-Co2Concentration.ensures ∙ ap lead_of (sym c.before.in-Co2Concentration.is)

enum-told-5 : tie.Need-enum_told-in-VolumetricFlow
enum-told-5 c = c.in-VolumetricFlow-1.keys5

lead-by-requires-5 : tie.Need-lead_by-requires-in-VolumetricFlow
lead-by-requires-5 c κs = search rules

returns-5 : tie.Need-returns-in-VolumetricFlow
returns-5 c = c.lead_by-in-VolumetricFlow.ensures ∙ ap lead_of (sym c.before.in-VolumetricFlow.is)

enum-told-6 : tie.Need-enum_told-in-Operation
enum-told-6 c = c.in-Operation-1.keys6

lead-by-requires-6 : tie.Need-lead_by-requires-in-Operation
lead-by-requires-6 c κs = search rules

returns-6 : tie.Need-returns-in-Operation
returns-6 c = c.lead_by-in-Operation.ensures ∙ ap lead_of (sym c.before.in-Operation.is)

enum-told-7 : tie.Need-enum_told-in-QuarterTotals
enum-told-7 c = c.in-QuarterTotals-1.keys7

lead-by-requires-7 : tie.Need-lead_by-requires-in-QuarterTotals
lead-by-requires-7 c κs = search rules

returns-7 : tie.Need-returns-in-QuarterTotals
returns-7 c = c.lead_by-in-QuarterTotals.ensures ∙ ap lead_of (sym c.before.in-QuarterTotals.is)

enum-told-8 : tie.Need-enum_told-in-So2Mass
enum-told-8 c = c.in-So2Mass-1.keys8

lead-by-requires-8 : tie.Need-lead_by-requires-in-So2Mass
lead-by-requires-8 c κs = search rules

returns-8 : tie.Need-returns-in-So2Mass
returns-8 c = c.lead_by-in-So2Mass.ensures ∙ ap lead_of (sym c.before.in-So2Mass.is)

enum-told-9 : tie.Need-enum_told-in-NoxRate
enum-told-9 c = c.in-NoxRate-1.keys9

lead-by-requires-9 : tie.Need-lead_by-requires-in-NoxRate
lead-by-requires-9 c κs = search rules

returns-9 : tie.Need-returns-in-NoxRate
returns-9 c = c.lead_by-in-NoxRate.ensures ∙ ap lead_of (sym c.before.in-NoxRate.is)

enum-told-10 : tie.Need-enum_told-in-Co2Mass
enum-told-10 c = c.in-Co2Mass-1.keys10

lead-by-requires-10 : tie.Need-lead_by-requires-in-Co2Mass
lead-by-requires-10 c κs = search rules

returns-10 : tie.Need-returns-in-Co2Mass
returns-10 c = c.lead_by-in-Co2Mass.ensures ∙ ap lead_of (sym c.before.in-Co2Mass.is)

pub lead_of_spec : {M : Type 1} → statement M
lead_of_spec =
    tie.close
    (tie.spec
    enum_told
    lead-by-requires
    enum-told-2
    lead-by-requires-2
    enum-told-3
    lead-by-requires-3
    enum-told-4
    lead-by-requires-4
    enum-told-5
    lead-by-requires-5
    enum-told-6
    lead-by-requires-6
    enum-told-7
    lead-by-requires-7
    enum-told-8
    lead-by-requires-8
    enum-told-9
    lead-by-requires-9
    enum-told-10
    lead-by-requires-10
    returns
    returns-2
    returns-3
    returns-4
    returns-5
    returns-6
    returns-7
    returns-8
    returns-9
    returns-10)
