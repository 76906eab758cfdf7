-- One call after another, on an object that may tell what it holds.
use Rattle.std.proofs.Common.{Option, Some, None}
use Rattle.folder_core.specs.Step.{OnTold, Step}

pub step_then : {T : Type 0} (a b c : Option T) (P Q R : T → T → Type 0) → Step a b P → Step b c Q → ((s t u : T) → P s t → Q t u → R s u) → Step a c R
step_then None None None P Q R p q f = tt
step_then None None (Some u) P Q R p q f = absurd q
step_then None (Some t) c P Q R p q f = absurd p
step_then (Some s) None c P Q R p q f = absurd p
step_then (Some s) (Some t) None P Q R p q f = absurd q
step_then (Some s) (Some t) (Some u) P Q R p q f = f s t u p q

pub step_weaker : {T : Type 0} (a b : Option T) (P Q : T → T → Type 0) → Step a b P → ((s t : T) → P s t → Q s t) → Step a b Q
step_weaker None None P Q p f = tt
step_weaker None (Some t) P Q p f = absurd p
step_weaker (Some s) None P Q p f = absurd p
step_weaker (Some s) (Some t) P Q p f = f s t p

pub step_same : {T : Type 0} (a : Option T) (P : T → T → Type 0) → ((s : T) → P s s) → Step a a P
step_same None P f = tt
step_same (Some s) P f = f s

pub on_told_weaker : {T : Type 0} (a : Option T) (P Q : T → Type 0) → OnTold a P → ((s : T) → P s → Q s) → OnTold a Q
on_told_weaker None P Q p f = tt
on_told_weaker (Some s) P Q p f = f s p

pub on_told_both : {T : Type 0} (a : Option T) (P Q R : T → Type 0) → OnTold a P → OnTold a Q → ((s : T) → P s → Q s → R s) → OnTold a R
on_told_both None P Q R p q f = tt
on_told_both (Some s) P Q R p q f = f s p q

pub on_told_all : {T : Type 0} (a : Option T) (P : T → Type 0) → ((s : T) → P s) → OnTold a P
on_told_all None P f = tt
on_told_all (Some s) P f = f s

-- what is told by two objects
pub both_weaker : {S T : Type 0} (a : Option S) (b : Option T) (P Q : S → T → Type 0) → OnTold a (λ s. OnTold b (P s)) → ((s : S) (t : T) → P s t → Q s t) → OnTold a (λ s. OnTold b (Q s))
both_weaker None b P Q p f = tt
both_weaker (Some s) None P Q p f = tt
both_weaker (Some s) (Some t) P Q p f = f s t p
