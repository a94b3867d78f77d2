-- What the answers of the functions that read a statement behind its keyword mean.
use Rattle.std.specs.Prelude.{Result, Ok, Err, ℕ, ◌<◌, ◌≤◌, Bool, true, false, List, [], length}
use Rattle.reading.specs.Statement.{Name}
use Rattle.reading.specs.Argument.{Arg, items_of}
use Rattle.reading.specs.Feature.{build_feature}
use Rattle.reading.specs.Syntax.{Call, feature_call, let_call, Step, argument, feature_made, let_made}
use Rattle.reading.specs.One.{One}
use Rattle.read_forms.specs.declared.Args.{Args}
use Rattle.read_forms.specs.declared.Refusal.{Refusal}
use Rattle.read_forms.specs.declared.Fault.TheVariants.{Unexpected}
use Rattle.read_forms.specs.Items.{name_in}
use Rattle.read_forms.specs.Forms.{arg_in, args_in}
use Rattle.read_forms.specs.Fits.{AllFit}
use Rattle.read_arguments.specs.Answers.{read_in, step_in, refused_by}
use Rattle.read_syntax.specs.declared.Head.{Head}
use Rattle.read_syntax.specs.declared.Head.TheVariants as head
use Rattle.read_syntax.specs.declared.Opened.{Opened}
use Rattle.read_syntax.specs.declared.CallRead.{CallRead}

-- what the arguments of a keyword belong to, with those before; a LET has none before its one
abbrev pub call_of : List ℕ → Name → Head → List Arg → Call
call_of s k (head.Feature m) ys = feature_call k m ys
call_of s k (head.Let n) ys = let_call (name_in s n)

-- what all of them make
abbrev pub call_made : ℕ → List ℕ → Name → Head → Args → Step
call_made limit s k (head.Feature m) xs = feature_made (build_feature limit k m (args_in s xs))
call_made limit s k (head.Let n) xs = let_made (name_in s n) (items_of (arg_in s xs.first))

-- whether no second one may follow
abbrev pub takes_one : Head → Bool
takes_one (head.Feature m) = false
takes_one (head.Let n) = true

-- a mark that is not allowed
abbrev pub misplaced : ℕ → Refusal
misplaced o = record { fault = Unexpected; place = o }

-- what stands between a statement's keyword and its arguments
unfoldable pub opened_then : ℕ → List ℕ → Name → Result Opened Refusal → One
opened_then limit s k (Ok c) = read_in limit s (argument (call_of s k c.head [])) c.next.at
opened_then limit s k (Err r) = refused_by r

unfoldable pub OpenedFurther : List ℕ → ℕ → Result Opened Refusal → Type 0
OpenedFurther s o (Ok c) = (o < c.next.at) × (c.next.at ≤ length s)
OpenedFurther s o (Err r) = Unit {0}

-- a statement behind its keyword
unfoldable pub call_then : ℕ → List ℕ → Name → Result CallRead Refusal → One
call_then limit s k (Ok c) = step_in limit s (call_made limit s k c.head c.args) c.next.at
call_then limit s k (Err r) = refused_by r

unfoldable pub CallFurther : List ℕ → ℕ → Result CallRead Refusal → Type 0
CallFurther s o (Ok c) = (o < c.next.at) × (c.next.at ≤ length s) × AllFit s c.args
CallFurther s o (Err r) = Unit {0}
