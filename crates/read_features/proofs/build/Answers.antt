-- `read_features::build` meets its contract. Assumes nothing.
use mathlib.Core.Path.{refl, ◌∙◌, sym}
use Rattle.reading.specs.Feature.{build_feature}
use Rattle.read_forms.specs.Items.{name_in}
use Rattle.read_features.proofs.Building.{keyword-found, keyword-none}
use Rattle.read_features.proofs.build.Goals as goal

pub returns-in_default : goal.returns-in_default
unfolding build_feature
returns-in_default c =
    let n = name_in c.args.text.now c.args.keyword in
    let h = rw c.spelling.ensures at c.find_keyword.ensures in
    rw (keyword-none n.spelling (sym c.in_default.is ∙ h))

pub returns : goal.returns
unfolding build_feature
returns c =
    let n = name_in c.args.text.now c.args.keyword in
    let h = rw c.spelling.ensures at c.find_keyword.ensures in
    rw (keyword-found n.spelling c.in-Some.place (sym c.in-Some.is ∙ h)) (c.build_known.ensures n refl)
