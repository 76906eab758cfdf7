-- A path of three names or more is below the entries' path where its first two names are those of that path.
use Rattle.std.proofs.Common.{◌≡◌, ◌∙◌, ◌≤◌, length, IsTrue, ℕ, Bool, true, nat_eq, List, [], ◌∷◌, slice_index_or, arith, sym, codes}
use lib.Pointwise.{pointwise, bytes_decides}
use Rattle.folder_core.specs.Node.{entries_path}
use Rattle.folder_core.specs.Path.{IsBelow}
use Rattle.host_adapters.proofs.host_folder.is_entry.Goals as goal

joined : (x y z : List ℕ) (rest : List (List ℕ)) → x ≡ codes ".p2" → y ≡ codes "e" → x ∷ y ∷ z ∷ rest ≡ codes ".p2" ∷ codes "e" ∷ z ∷ rest
joined x y z rest p q = cc

IsBelow-entries : (xs : List (List ℕ)) (a b : List ℕ) (r : Bool) → 3 ≤ length xs → a ≡ slice_index_or xs 0 a → b ≡ slice_index_or xs 1 b → pointwise nat_eq a (codes ".p2") ≡ true → r ≡ pointwise nat_eq b (codes "e") → (IsTrue r → IsBelow entries_path xs) × (IsBelow entries_path xs → IsTrue r)
IsBelow-entries [] a b r long first second dot is = absurd (omega arith)
IsBelow-entries (x ∷ []) a b r long first second dot is = absurd (omega arith)
IsBelow-entries (x ∷ y ∷ []) a b r long first second dot is = absurd (omega arith)
IsBelow-entries (x ∷ y ∷ z ∷ rest) a b r long first second dot is =
    let dot_is : x ≡ codes ".p2" = sym first ∙ (bytes_decides a (codes ".p2")).0 dot in (
      λ e. (z, rest, joined x y z rest dot_is (sym second ∙ (bytes_decides b (codes "e")).0 (sym is ∙ e))),
      λ below. is ∙ (bytes_decides b (codes "e")).1 (second ∙ (let same : x ∷ y ∷ z ∷ rest ≡ codes ".p2" ∷ codes "e" ∷ below.0 ∷ below.1 = below.2 in cc)),
    )

pub returns-then-eq : goal.returns-then-eq
returns-then-eq c =
    let is : c.items.result.now ≡ c.args.path.now = c.items.ensures ∙ c.names.ensures.value in
    let first : c.first-item.result ≡ slice_index_or c.args.path.now 0 c.first-item.result = rw (← is) c.first-item.is in
    let second : c.second-item.result ≡ slice_index_or c.args.path.now 1 c.second-item.result = rw (← is) c.second-item.is in
    let long : 3 ≤ length c.args.path.now = rw (← is) c.in-len3-up.len_at_least in
    let dot : pointwise nat_eq c.first-item.result (codes ".p2") ≡ true = let t = c.as_str.ensures ∙ c.text.ensures.value in rw (← t) (sym c.eq.ensures ∙ c.if-eq.true) in
    let e : c.eq-then-eq.result ≡ pointwise nat_eq c.second-item.result (codes "e") = c.eq-then-eq.ensures ∙ (let t = c.as_str-then-eq.ensures ∙ c.text-then-eq.ensures.value in rw t) in
    IsBelow-entries c.args.path.now c.first-item.result c.second-item.result c.eq-then-eq.result long first second dot e
