-- `accepted_tables::put_keyword` is safe and ends: the constant is the table of keywords, which has a row for each. Assumes nothing.
use mathlib.Core.Path.{refl}
use native.Mathlib.Omega.{arith}
use Rattle.std.proofs.Common.{◌<◌}
use Rattle.labels.specs.Label.{keywords}
use Rattle.labels.specs.Table.{keyword_table}
use Rattle.show_texts.specs.declared.keywords.Keyword.{Keyword}
use Rattle.show_texts.specs.declared.keywords.Keyword.TheVariants.{Absorption, Elimination, Peripherals, Transits, Lagtime, Covariate, Allometry, DirectEffect, EffectComp, IndirectEffect, Metabolite, Iiv, Iov, Covariance, Let}
use Rattle.show_texts.specs.contracts.keywords.Keyword.{the_type}
use denote.Enum.Declared.{tag_of}
use Rattle.show_texts.proofs.accepted_tables.put_keyword.Goals as goal

-- a keyword's number is a place of the table
has_row : (k : Keyword) → tag_of the_type k < 15
has_row Absorption = omega arith
has_row Elimination = omega arith
has_row Peripherals = omega arith
has_row Transits = omega arith
has_row Lagtime = omega arith
has_row Covariate = omega arith
has_row Allometry = omega arith
has_row DirectEffect = omega arith
has_row EffectComp = omega arith
has_row IndirectEffect = omega arith
has_row Metabolite = omega arith
has_row Iiv = omega arith
has_row Iov = omega arith
has_row Covariance = omega arith
has_row Let = omega arith

pub keyword_label-requires-clause-keys_value : goal.keyword_label-requires-clause-keys_value
unfolding keyword_table keywords
keyword_label-requires-clause-keys_value c = refl

pub keyword_label-requires-clause-place_in_bounds : goal.keyword_label-requires-clause-place_in_bounds
unfolding keywords
keyword_label-requires-clause-place_in_bounds c = has_row c.in-Some.keyword
