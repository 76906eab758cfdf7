-- The journal's directories are set up.
use Rattle.std.proofs.Common.{◌≡◌, ◌≢◌, ℕ, List, [], ◌∷◌, ◌++◌, Option, Some, None, inr, ⊎_elim, sym, ◌∙◌, ap, subst, codes}
use Rattle.folder_core.specs.Folder.{Map, Told, SameBut}
use Rattle.folder_core.specs.Crash.{IsImage}
use Rattle.folder_core.specs.Node.{entries_path}
use Rattle.folder_core.specs.Path.{parent}
use Rattle.folder_core.specs.Step.{OnTold, Step}
use Rattle.folder_core.specs.declared.node.Node.TheVariants.{Dir}
use Rattle.backup_store.specs.Held.{IsFileOf, gate_text}
use Rattle.backup_store.specs.Places.{gate_path}
use Rattle.install_journal.specs.Firsts.{Finds}
use Rattle.install_journal.specs.Preparing.{IsLeft, IsPrepared, Moves, HasFlatEntries, HasNoEntries, IsDamage, IsFresh, SparesGate, journal_path}
use Rattle.install_journal.specs.Tidy.{IsTidy}
use Rattle.install_journal.proofs.Damages.{gate_free, entries_flat}
use Rattle.install_journal.proofs.Foreigns.{undamaged_tidy}
use Rattle.install_journal.proofs.Fixing.{fixed_synced, fixed_same}
use Rattle.install_journal.proofs.Runs.{on_each, on_both, step_on, step_both, step_each, step_from, step_then}

pub journal_inside : (journal : List (List ℕ)) → journal ≡ journal_path → ¬ (IsLeft journal)
journal_inside journal is left = ⊎_elim (λ outside. outside [] is)
    (λ more. ⊎_elim (λ gate. let e = sym is ∙ gate in let f : ⊥ = cc in f) (λ foreign. let e = sym is ∙ foreign.below in let f : ⊥ = cc in f) more) left

pub entries_inside : (entries : List (List ℕ)) → entries ≡ entries_path → ¬ (IsLeft entries)
entries_inside entries is left = ⊎_elim (λ outside. outside (codes "e" ∷ []) is)
    (λ more. ⊎_elim (λ gate. let e = sym is ∙ gate in let f : ⊥ = cc in f) (λ foreign. foreign.not_entries is) more) left

apart_journal : (path journal : List (List ℕ)) → journal ≡ journal_path → path ≢ journal_path → path ≢ journal
apart_journal path journal is apart e = apart (e ∙ is)

flat_but : (a b d : Map) (journal entries : List (List ℕ)) → journal ≡ journal_path → entries ≡ entries_path → Finds (IsDamage a) None → SameBut journal a b → SameBut entries b d → HasFlatEntries d
flat_but a b d journal entries is at none first second name next =
    second (entries_path ++ name ∷ next ∷ []) (λ e. let x = e ∙ at in let f : ⊥ = cc in f)
    ∙ first (entries_path ++ name ∷ next ∷ []) (λ e. let x = e ∙ is in let f : ⊥ = cc in f)
    ∙ entries_flat a none name next

gate_but : (a b d : Map) (journal entries : List (List ℕ)) → journal ≡ journal_path → entries ≡ entries_path → Finds (IsDamage a) None → SameBut journal a b → SameBut entries b d
    → (name : List ℕ) (rest : List (List ℕ)) → d (gate_path ++ name ∷ rest) ≡ None
gate_but a b d journal entries is at none first second name rest =
    second (gate_path ++ name ∷ rest) (λ e. let x = e ∙ at in let f : ⊥ = cc in f)
    ∙ first (gate_path ++ name ∷ rest) (λ e. let x = e ∙ is in let f : ⊥ = cc in f)
    ∙ gate_free a none name rest

module _ {D : Type 0} (told : D → Option Told) (left_since : D → ℕ → Map → Type 0) where
  pub journal_above : (old : D) (journal : List (List ℕ)) → journal ≡ journal_path → OnTold (told old) (λ s. IsImage s s.now) → OnTold (told old) (λ s. s.now (parent journal) ≡ Some Dir)
  journal_above old journal is image = on_each (told old) (λ s. IsImage s s.now) (λ s. s.now (parent journal) ≡ Some Dir) (λ s img. ap (λ (p : List (List ℕ)). s.now (parent p)) is ∙ img.formed.root) image

  pub entries_above : (old : D) (journal entries : List (List ℕ)) → journal ≡ journal_path → entries ≡ entries_path → OnTold (told old) (λ t. t.now journal ≡ Some Dir) → OnTold (told old) (λ s. s.now (parent entries) ≡ Some Dir)
  entries_above old journal entries is at made = on_each (told old) (λ t. t.now journal ≡ Some Dir) (λ s. s.now (parent entries) ≡ Some Dir)
      (λ s dir. ap (λ (p : List (List ℕ)). s.now (parent p)) at ∙ ap s.now (sym is) ∙ dir) made

  pub directory_now : (old : D) (entries : List (List ℕ)) → entries ≡ entries_path → OnTold (told old) (λ t. t.now entries ≡ Some Dir) → OnTold (told old) (λ t. t.now entries_path ≡ Some Dir)
  directory_now old entries at made = on_each (told old) (λ t. t.now entries ≡ Some Dir) (λ t. t.now entries_path ≡ Some Dir) (λ t dir. ap t.now (sym at) ∙ dir) made

  pub flat_then : (old mid new : D) (journal entries : List (List ℕ)) → journal ≡ journal_path → entries ≡ entries_path → OnTold (told old) (λ s. Finds (IsDamage s.now) None)
      → Step (told old) (told mid) (λ s t. SameBut journal s.now t.now) → Step (told mid) (told new) (λ s t. SameBut entries s.now t.now) → OnTold (told new) (λ t. HasFlatEntries t.now)
  flat_then old mid new journal entries is at none first second = step_on (told old) (told new) (λ s. Finds (IsDamage s.now) None) (λ t. HasFlatEntries t.now) (λ s u. (t : Told) × (SameBut journal s.now t.now × SameBut entries t.now u.now)) none
      (step_then (told old) (told mid) (told new) (λ s t. SameBut journal s.now t.now) (λ s t. SameBut entries s.now t.now) (λ s u. (t : Told) × (SameBut journal s.now t.now × SameBut entries t.now u.now)) first second (λ s t u p q. (t, (p, q))))
      (λ s u undamaged run. flat_but s.now run.0.now u.now journal entries is at undamaged run.1.0 run.1.1)

  pub sync_moves : (old new : D) → OnTold (told old) (λ s. IsImage s s.now) → Step (told old) (told new) (λ s t. t.now ≡ s.now) → Step (told old) (told new) (λ s t. t.synced ≡ s.now) → Step (told old) (told new) (λ s t. t.touched ≡ []) → Step (told old) (told new) Moves
  sync_moves old new image stays synced settled = step_from (told old) (told new) (λ s. IsImage s s.now) (λ s t. (t.now ≡ s.now) × ((t.synced ≡ s.now) × (t.touched ≡ []))) Moves image
      (step_both (told old) (told new) (λ s t. t.now ≡ s.now) (λ s t. (t.synced ≡ s.now) × (t.touched ≡ [])) stays (step_both (told old) (told new) (λ s t. t.synced ≡ s.now) (λ s t. t.touched ≡ []) synced settled))
      (λ s t img call. record {
        fixed = λ path left stands fixed. fixed_synced s t path stands img call.1.0 call.1.1 fixed;
        now = λ path left. ap (λ (m : Map). m path) call.0;
      })

  pub fail_moves : (old new : D) → Step (told old) (told new) (λ s t. t.now ≡ s.now) → Step (told old) (told new) (λ s t. t.synced ≡ s.synced) → Step (told old) (told new) (λ s t. t.touched ≡ s.touched) → Step (told old) (told new) Moves
  fail_moves old new stays synced touched = step_each (told old) (told new) (λ s t. (t.now ≡ s.now) × ((t.synced ≡ s.synced) × (t.touched ≡ s.touched))) Moves
      (λ s t call. record {
        fixed = λ path left stands fixed. fixed_same s t path stands call.1.0 call.1.1 fixed;
        now = λ path left. ap (λ (m : Map). m path) call.0;
      })
      (step_both (told old) (told new) (λ s t. t.now ≡ s.now) (λ s t. (t.synced ≡ s.synced) × (t.touched ≡ s.touched)) stays (step_both (told old) (told new) (λ s t. t.synced ≡ s.synced) (λ s t. t.touched ≡ s.touched) synced touched))

  pub fresh_then : (old one two three new : D) (journal entries : List (List ℕ)) → journal ≡ journal_path → entries ≡ entries_path → OnTold (told old) (λ s. Finds (IsDamage s.now) None)
      → OnTold (told one) (λ t. t.now journal ≡ Some Dir)
      → Step (told old) (told one) (λ s t. SameBut journal s.now t.now) → Step (told one) (told two) (λ s t. SameBut entries s.now t.now) → Step (told two) (told three) (λ s t. SparesGate s.now t.now)
      → OnTold (told three) (λ t. HasNoEntries t.now) → OnTold (told three) IsPrepared
      → OnTold (told old) (λ s. IsImage s s.now) → Step (told old) (told three) Moves
      → Step (told three) (told new) (λ s t. t.now ≡ s.now) → Step (told three) (told new) (λ s t. t.synced ≡ s.now) → Step (told three) (told new) (λ s t. t.touched ≡ [])
      → OnTold (told new) IsFresh
  fresh_then old one two three new journal entries is at none made first second spares cleared prepared image moves stays synced settled =
      let below : OnTold (told two) (λ t. (name : List ℕ) (rest : List (List ℕ)) → t.now (gate_path ++ name ∷ rest) ≡ None) =
      step_on (told old) (told two) (λ s. Finds (IsDamage s.now) None) (λ t. (name : List ℕ) (rest : List (List ℕ)) → t.now (gate_path ++ name ∷ rest) ≡ None) (λ s u. (t : Told) × (SameBut journal s.now t.now × SameBut entries t.now u.now)) none
      (step_then (told old) (told one) (told two) (λ s t. SameBut journal s.now t.now) (λ s t. SameBut entries s.now t.now) (λ s u. (t : Told) × (SameBut journal s.now t.now × SameBut entries t.now u.now)) first second (λ s t u p q. (t, (p, q))))
      (λ s u undamaged run. gate_but s.now run.0.now u.now journal entries is at undamaged run.1.0 run.1.1) in
      let dir : OnTold (told two) (λ t. t.now journal_path ≡ Some Dir) = step_on (told one) (told two) (λ t. t.now journal ≡ Some Dir) (λ t. t.now journal_path ≡ Some Dir) (λ s t. SameBut entries s.now t.now) made second
      (λ s t d but. but journal_path (λ e. let x = e ∙ at in let f : ⊥ = cc in f) ∙ ap s.now (sym is) ∙ d) in
      let then : OnTold (told three) (λ u. (u.now journal_path ≡ Some Dir) × ((name : List ℕ) (rest : List (List ℕ)) → u.now (gate_path ++ name ∷ rest) ≡ None)) =
      step_on (told two) (told three) (λ t. (t.now journal_path ≡ Some Dir) × ((name : List ℕ) (rest : List (List ℕ)) → t.now (gate_path ++ name ∷ rest) ≡ None)) (λ u. (u.now journal_path ≡ Some Dir) × ((name : List ℕ) (rest : List (List ℕ)) → u.now (gate_path ++ name ∷ rest) ≡ None)) (λ s t. SparesGate s.now t.now)
      (on_both (told two) (λ t. t.now journal_path ≡ Some Dir) (λ t. (name : List ℕ) (rest : List (List ℕ)) → t.now (gate_path ++ name ∷ rest) ≡ None) dir below) spares
      (λ t u had spare. (spare.journal ∙ had.0, λ name rest. spare.below name rest (had.1 name rest))) in
      let tidy : OnTold (told three) (λ u. IsTidy u.now) = step_on (told old) (told three) (λ s. Finds (IsDamage s.now) None × IsImage s s.now) (λ u. IsTidy u.now) Moves
      (on_both (told old) (λ s. Finds (IsDamage s.now) None) (λ s. IsImage s s.now) none image) moves
      (λ s u both move path foreign. move.now path (inr (inr foreign)) ∙ undamaged_tidy s.now both.1.formed both.0 path foreign) in
      step_on (told three) (told new) (λ u. ((u.now journal_path ≡ Some Dir) × ((name : List ℕ) (rest : List (List ℕ)) → u.now (gate_path ++ name ∷ rest) ≡ None)) × (HasNoEntries u.now × (IsPrepared u × IsTidy u.now))) IsFresh (λ s t. (t.now ≡ s.now) × ((t.synced ≡ s.now) × (t.touched ≡ [])))
      (on_both (told three) (λ u. (u.now journal_path ≡ Some Dir) × ((name : List ℕ) (rest : List (List ℕ)) → u.now (gate_path ++ name ∷ rest) ≡ None)) (λ u. HasNoEntries u.now × (IsPrepared u × IsTidy u.now)) then
      (on_both (told three) (λ u. HasNoEntries u.now) (λ u. IsPrepared u × IsTidy u.now) cleared (on_both (told three) IsPrepared (λ u. IsTidy u.now) prepared tidy)))
      (step_both (told three) (told new) (λ s t. t.now ≡ s.now) (λ s t. (t.synced ≡ s.now) × (t.touched ≡ [])) stays (step_both (told three) (told new) (λ s t. t.synced ≡ s.now) (λ s t. t.touched ≡ []) synced settled))
      (λ u t had call. record {
        tidy = λ path foreign. ap (λ (m : Map). m path) call.0 ∙ had.1.1.1 path foreign;
        synced = record { synced = call.1.0 ∙ sym call.0; settled = call.1.1 };
        entries = record { directory = ap (λ (m : Map). m entries_path) call.0 ∙ had.1.0.directory; none = λ name. ap (λ (m : Map). m (entries_path ++ name ∷ [])) call.0 ∙ had.1.0.none name };
        journal = ap (λ (m : Map). m journal_path) call.0 ∙ had.0.0;
        below_gate = λ name rest. ap (λ (m : Map). m (gate_path ++ name ∷ rest)) call.0 ∙ had.0.1 name rest;
        closed = λ opens. had.1.1.0.closed (subst (IsFileOf gate_text) (ap (λ (m : Map). m gate_path) call.0) opens);
      })
