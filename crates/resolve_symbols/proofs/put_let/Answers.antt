-- `resolve_symbols::put_let` meets its contract: the key lies in the text and the cursor is cut to it, so they fit into 32 bits. Assumes nothing.
use Prim.Native.Nat.{ℕ}
use mathlib.Core.Path.{◌∙◌, ap, sym, subst}
use Rattle.tokens.specs.Next.{cursor}
use Rattle.read_forms.specs.declared.Items.{Items}
use Rattle.read_forms.specs.Items.{items_in}
use Rattle.read_forms.specs.Fits.{Listed}
use Rattle.resolve_symbols.proofs.Cut.{items_cut, listed_cut}
use Rattle.resolve_symbols.proofs.Lets.{let-put}
use Rattle.resolve_symbols.proofs.put_let.Goals as goal

pub returns : goal.returns
returns c =
    let a = c.args in
    let p = c.requires in
    let s = a.text.now in
    let cut : ℕ → Items = λ o. record { first = cursor o; count = a.values.count } in
    let-put s a.lets.now a.n p.0 p.1 p.2 a.name (cut c.min-cursor.result) a.values p.4
    (subst (λ (o : ℕ). Listed s (cut o)) (sym c.min-cursor.ensures) (listed_cut s a.values p.5))
    (ap (λ (o : ℕ). items_in s (cut o)) c.min-cursor.ensures ∙ items_cut s a.values)
