use Rattle.std.proofs.Common.{◌≡◌, ◌+◌, Ok, sym, ◌∙◌, subst, arith}
use Rattle.std.specs.declared.alloc.AllocError.{AllocError}
use Rattle.std.specs.List.{Contains}
use Rattle.std.specs.Ordering.{nat_cmp}
use Rattle.std.specs.Cmp.Lexicographic.{slice_cmp}
use Rattle.std.proofs.lemmas.Cmp.{nat_list_cmp_total}
use Rattle.std.proofs.lemmas.Iterator.{items_from_collect}
use Rattle.std.proofs.lemmas.Iterator.Consumers.{YieldsList-from_rest}
use Rattle.std.proofs.lemmas.Map.Keys.{Less-from_sorted}
use Rattle.std.proofs.lemmas.Map.Lookups.{exact_bytes}
use Rattle.std.proofs.lemmas.Map.Views.{btree_set_contains_iff}
use Rattle.folder_core.specs.Name.{AreRising}
use Rattle.folder_memory.proofs.names.rising.Goals as goal

pub returns-clause-names : goal.returns-clause-names
returns-clause-names c name =
    let keys : c.from_vec.result ≡ c.args.names.keys = c.from_vec.ensures ∙ items_from_collect {E = AllocError} (Ok c.in_ok-listed.listed) c.in_ok-listed.ensures.ran (YieldsList-from_rest c.args.names.keys c.into_iter.ensures.into_iter_gives.0) in
    let iff = btree_set_contains_iff nat_list_cmp_total exact_bytes c.args.names name in
    (λ had. iff.1 (subst (λ l. Contains l name) keys had), λ has. subst (λ l. Contains l name) (sym keys) (iff.0 has))

pub returns-clause-rising : goal.returns-clause-rising
returns-clause-rising c =
    let keys : c.from_vec.result ≡ c.args.names.keys = c.from_vec.ensures ∙ items_from_collect {E = AllocError} (Ok c.in_ok-listed.listed) c.in_ok-listed.ensures.ran (YieldsList-from_rest c.args.names.keys c.into_iter.ensures.into_iter_gives.0) in
    subst AreRising (sym keys) (λ k d below. Less-from_sorted (slice_cmp nat_cmp) c.args.names.keys k (k + 1) d c.into_iter.ensures.into_iter_gives.4 (omega arith) below)
