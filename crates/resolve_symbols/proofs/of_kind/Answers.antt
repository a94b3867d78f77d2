-- `resolve_symbols::of_kind` meets its contract: the entry is taken if its kind is the one asked for. Assumes nothing.
use Rattle.resolve_context.proofs.Meaning.{declared_sound, kinds-within}
use Rattle.resolve_symbols.proofs.of_kind.Goals as goal

pub kind_at-requires : goal.kind_at-requires
kind_at-requires c = (c.requires.1, kinds-within _ _ _ c.requires.0)

pub pair_at-requires : goal.pair_at-requires
pair_at-requires c = (c.requires.1, declared_sound _ _ _ c.requires.0)
