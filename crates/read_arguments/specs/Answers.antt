-- What the answers of the functions that read arguments mean: how the reading of the statement goes on from them.
use Rattle.std.specs.Prelude.{Result, Ok, Err, ℕ, ◌-◌, ◌<◌, ◌≤◌, true, cond, List, ◌≡◌, eqb, length}
use Rattle.tokens.specs.declared.Token as lexer
use Rattle.tokens.specs.Token.{Tokens}
use Rattle.reading.specs.Statement.{Item}
use Rattle.reading.specs.Argument.{array}
use Rattle.reading.specs.Argument as argument
use Rattle.reading.specs.Syntax.{Call, State, Step, item, argument_read, comma, closed, empty}
use Rattle.reading.specs.One.{One, halted, one_step, read_one}
use Rattle.read_forms.specs.declared.Name as form
use Rattle.read_forms.specs.declared.Refusal.{Refusal}
use Rattle.read_forms.specs.declared.Fault.TheVariants.{BadByte, Unexpected}
use Rattle.read_forms.specs.Faults.{number_of}
use Rattle.read_forms.specs.Items.{tokens_from, listed}
use Rattle.read_forms.specs.Fits.{Fits}
use Rattle.read_forms.specs.Forms.{arg_in}
use Rattle.read_arguments.specs.declared.ArgRead.{ArgRead}
use Rattle.read_arguments.specs.declared.ArgRead.TheVariants as read
use Rattle.read_arguments.specs.declared.Entry.{Entry}
use Rattle.read_arguments.specs.declared.Entry.TheVariants as entry
use Rattle.read_arguments.specs.declared.After.{After}
use Rattle.read_arguments.specs.declared.After.TheVariants as after

-- the rest of a statement that goes on at an offset, and what a step leads to there
abbrev pub read_in : ℕ → List ℕ → State → ℕ → One
read_in limit s st o = read_one limit (length s) st (tokens_from s o)

abbrev pub step_in : ℕ → List ℕ → Step → ℕ → One
step_in limit s x o = one_step x (tokens_from s o) (λ st. read_in limit s st o)

abbrev pub refused_by : Refusal → One
refused_by r = halted (number_of r.fault) r.place

-- a token that is not allowed
abbrev pub refusal_of : lexer.Token → Refusal
refusal_of t = record { fault = cond (eqb t.kind 2) BadByte Unexpected; place = t.start }

-- a token's bytes as a name
abbrev pub name_of : lexer.Token → form.Name
name_of t = record { offset = t.start; length = t.next.at - t.start }

-- an argument, or a `)` in the place of one
unfoldable pub arg_then : ℕ → List ℕ → Call → Result ArgRead Refusal → One
arg_then limit s c (Ok (read.Arg a n)) = read_in limit s (argument_read c (arg_in s a)) n.at
arg_then limit s c (Ok (read.Close o n)) = step_in limit s (empty limit o c) n.at
arg_then limit s c (Err r) = refused_by r

-- the cursor after an argument is further on, and in the text
unfoldable pub ArgFurther : List ℕ → ℕ → Result ArgRead Refusal → Type 0
ArgFurther s o (Ok (read.Arg a n)) = (o ≤ n.at) × (n.at ≤ length s) × Fits s a
ArgFurther s o (Ok (read.Close p n)) = (o < n.at) × (n.at ≤ length s)
ArgFurther s o (Err r) = Unit {0}

-- an array that has these entries so far
unfoldable pub entry_then : ℕ → List ℕ → Call → ℕ → List Item → Result Entry Refusal → One
entry_then limit s c p items (Ok (entry.More n)) = read_in limit s (item c p items) n.at
entry_then limit s c p items (Ok (entry.Done n)) = read_in limit s (argument_read c (array p items)) n.at
entry_then limit s c p items (Err r) = refused_by r

-- the tokens behind an entry are those from the cursor on, which is further on
unfoldable pub EntryFurther : List ℕ → ℕ → Tokens → Result Entry Refusal → Type 0
EntryFurther s o ts (Ok (entry.More n)) = (o < n.at) × (n.at ≤ length s) × (ts ≡ tokens_from s n.at)
EntryFurther s o ts (Ok (entry.Done n)) = (o < n.at) × (n.at ≤ length s)
EntryFurther s o ts (Err r) = Unit {0}

-- the entry itself is a word or a number, and not the 65th
unfoldable pub EntryListed : List ℕ → ℕ → ℕ → Result Entry Refusal → Type 0
EntryListed s o count (Ok (entry.More n)) = (listed 1 (tokens_from s o) ≡ true) × (count < 64)
EntryListed s o count (Ok (entry.Done n)) = (listed 1 (tokens_from s o) ≡ true) × (count < 64)
EntryListed s o count (Err r) = Unit {0}

-- what follows an argument
unfoldable pub after_then : ℕ → List ℕ → Call → argument.Arg → Result After Refusal → One
after_then limit s c a (Ok (after.Comma o n)) = step_in limit s (comma o c a) n.at
after_then limit s c a (Ok (after.Close n)) = step_in limit s (closed limit c a) n.at
after_then limit s c a (Err r) = refused_by r

unfoldable pub AfterFurther : List ℕ → ℕ → Result After Refusal → Type 0
AfterFurther s o (Ok (after.Comma p n)) = (o < n.at) × (n.at ≤ length s)
AfterFurther s o (Ok (after.Close n)) = (o < n.at) × (n.at ≤ length s)
AfterFurther s o (Err r) = Unit {0}
