-- `resolve_symbols::builtin` meets its contract: the tests are those of the definition, the last of them made first. Assumes nothing.
use mathlib.Core.Bool.{Bool}
use Prim.Native.String.{String}
use Rattle.text.specs.Bytes.{bytes}
use Rattle.labels.specs.Word.{same_word}
use Rattle.resolving.specs.Builtins.{builtin}
use Rattle.resolve_context.specs.declared.Kind.TheVariants.{Continuous, Categorical}
use Rattle.resolve_symbols.specs.declared.Roles.TheVariants.{Every, Absorption, Elimination, Distribution, Bioavail}
use Rattle.resolve_symbols.proofs.Builtins.{chosen, unknown, is_iiv, is-nothing, of_template, of_template-iiv, of_block}
use Rattle.resolve_symbols.proofs.builtin.Goals as goal

pub returns : goal.returns
unfolding builtin
returns c =
    let is : String → Bool = λ n. same_word c.args.word.now (bytes n) in
    chosen (is "IIV") c.if_word.ensures is_iiv
    (chosen (is "PK") c.if_word-r-10.ensures (of_template Every)
    (chosen (is "PK_IIV") c.if_word-r-9.ensures of_template-iiv
    (chosen (is "PD") c.if_word-r-8.ensures is-nothing
    (chosen (is "PD_IIV") c.if_word-r-7.ensures is-nothing
    (chosen (is "ABSORPTION") c.if_word-r-6.ensures (of_template Absorption)
    (chosen (is "ELIMINATION") c.if_word-r-5.ensures (of_template Elimination)
    (chosen (is "DISTRIBUTION") c.if_word-r-4.ensures (of_template Distribution)
    (chosen (is "BIOAVAIL") c.if_word-r-3.ensures (of_template Bioavail)
    (chosen (is "CONTINUOUS") c.if_word-r-2.ensures (of_block Continuous)
    (chosen (is "CATEGORICAL") c.if_word-r.ensures (of_block Categorical)
    unknown))))))))))

pub if_word-r-requires : goal.if_word-r-requires
if_word-r-requires c = tt

pub if_word-r-requires-2 : goal.if_word-r-requires-2
if_word-r-requires-2 c = tt

pub if_word-r-requires-3 : goal.if_word-r-requires-3
if_word-r-requires-3 c = tt

pub if_word-r-requires-4 : goal.if_word-r-requires-4
if_word-r-requires-4 c = tt

pub if_word-r-requires-5 : goal.if_word-r-requires-5
if_word-r-requires-5 c = tt

pub if_word-r-requires-6 : goal.if_word-r-requires-6
if_word-r-requires-6 c = tt

pub if_word-r-requires-7 : goal.if_word-r-requires-7
if_word-r-requires-7 c = tt

pub if_word-r-requires-8 : goal.if_word-r-requires-8
if_word-r-requires-8 c = tt

pub if_word-r-requires-9 : goal.if_word-r-requires-9
if_word-r-requires-9 c = tt

pub if_word-r-requires-10 : goal.if_word-r-requires-10
if_word-r-requires-10 c = tt

pub if_word-requires : goal.if_word-requires
if_word-requires c = tt
