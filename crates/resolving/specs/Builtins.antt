-- Document 01, Resolving: "the built-ins of `builtin`, ignoring ASCII case". "Built-in PK_IIV uses the built-in PK, never a LET. PD and PD_IIV
-- are empty."
use Rattle.std.specs.Prelude.{ℕ, Bool, true, cond, List, [], ◌∷◌, map, eqb}
use Rattle.std.proofs.Math.Option
use Rattle.std.proofs.Math.Option.{Option, some, none}
use Rattle.text.specs.Bytes.{bytes}
use Rattle.labels.specs.Word.{same_word}
use Rattle.text.specs.Lists.{any, keep, gather, same_bytes}
use Rattle.resolving.specs.Context.{Context, Binding, Declared, CovariateKind, continuous, categorical, kind_number}

-- Of the template.

-- "Template variables match parameters ignoring case, first match". One without a match brings nothing.
abbrev pub matching : List (List ℕ) → List ℕ → List (List ℕ)
matching [] v = []
matching (p ∷ ps) v = cond (same_word v p) (p ∷ []) (matching ps v)

abbrev pub every_role : Binding → Bool
every_role b = true

abbrev pub roles : List (List ℕ) → Binding → Bool
roles ws b = any (same_bytes b.role) ws

abbrev pub absorption_roles : List (List ℕ)
absorption_roles =
    bytes "ka" ∷ bytes "n" ∷ bytes "mtt" ∷ bytes "mat" ∷ bytes "cv2" ∷ bytes "lagtime" ∷ bytes "alag" ∷ bytes "tlag" ∷ []

abbrev pub distribution_roles : List (List ℕ)
distribution_roles = bytes "v" ∷ bytes "v1" ∷ bytes "v2" ∷ bytes "v3" ∷ bytes "q" ∷ bytes "q2" ∷ bytes "q3" ∷ []

-- the parameters of the roles that pass
abbrev pub templated : Context → (Binding → Bool) → Option (List (List ℕ))
templated c p = Option.map (λ bs. gather (λ b. matching c.parameters b.variable) (keep p bs)) c.template

-- Of the declaration block.

abbrev pub of_kind : CovariateKind → Declared → Bool
of_kind k d = eqb (kind_number k) (kind_number d.kind)

abbrev pub declared : Context → CovariateKind → Option (List (List ℕ))
declared c k = Option.map (λ ds. map (λ d. d.name) (keep (of_kind k) ds)) c.block

-- A built-in's names. There are none where it is unknown, or where its template or block is missing.
unfoldable pub builtin : Context → List ℕ → Option (List (List ℕ))
builtin c w =
    cond (same_word w (bytes "IIV")) (some c.iiv)
    (cond (same_word w (bytes "PK")) (templated c every_role)
    (cond (same_word w (bytes "PK_IIV")) (Option.map (keep (λ v. any (same_bytes v) c.iiv)) (templated c every_role))
    (cond (same_word w (bytes "PD")) (some [])
    (cond (same_word w (bytes "PD_IIV")) (some [])
    (cond (same_word w (bytes "ABSORPTION")) (templated c (roles absorption_roles))
    (cond (same_word w (bytes "ELIMINATION")) (templated c (roles (bytes "cl" ∷ [])))
    (cond (same_word w (bytes "DISTRIBUTION")) (templated c (roles distribution_roles))
    (cond (same_word w (bytes "BIOAVAIL")) (templated c (roles (bytes "f" ∷ [])))
    (cond (same_word w (bytes "CONTINUOUS")) (declared c continuous)
    (cond (same_word w (bytes "CATEGORICAL")) (declared c categorical)
    none))))))))))
