use Rattle.std.proofs.Common.{◌∙◌, rules, tests}
use Rattle.std.proofs.lemmas.Iterator.{YieldsList-from_slice}
use Rattle.std.proofs.lemmas.Iterator.Search.{all_from_yields_List}
use Rattle.columns.specs.Bytes.{is_blank}
use Rattle.columns.proofs.Reading.{all_is}
use Rattle.columns.proofs.all_blank.Goals as goal

pub returns : goal.returns
returns c =
    all_from_yields_List is_blank _ _ _ c.all.ensures.ran (YieldsList-from_slice c.args.bytes.now cc) (λ x b q k. search (rules, tests))
    ∙ all_is is_blank _
