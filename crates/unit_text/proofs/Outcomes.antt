-- What a reader of lines may answer, from what it read before.
use Rattle.std.proofs.Common.{◌≡◌, ◌≢◌, ℕ, ◌+◌, ◌-◌, ◌<◌, ◌≤◌, Bool, true, false, List, [], ◌∷◌, ◌++◌, length, get_or, take, drop, map, Option, Some, None, Result, Ok, Err, IfOk, MatchResult, Bor, refl, sym, ap, ◌∙◌, subst, append_assoc, append-nil, arith, length-append, length-take, take-append-drop}
use Rattle.std.proofs.Math.Seq.{take-append_seam, take-append-add}
use Rattle.std.proofs.lemmas.List.{map-append, take_more, drop_more, length-map}
use Rattle.std.proofs.lemmas.List.Elements.{All-nil, All-cons}
use Rattle.unit_model.specs.declared.name.UnitName.{UnitName}
use Rattle.unit_model.specs.declared.update.Update.{Update}
use Rattle.unit_lines.specs.Line.{seen}
use Rattle.unit_lines.specs.Parts.{IsLineOf, part_line}
use Rattle.unit_lines.specs.declared.part.Part.{Part}
use Rattle.unit_lines.specs.declared.part.Part.TheVariants as part
use Rattle.unit_lines.proofs.Injective.{one_part}
use Rattle.unit_text.specs.declared.draft.Draft.{Draft}
use Rattle.unit_text.specs.declared.fault.BadLines.{BadLines}
use Rattle.unit_text.specs.declared.taking.TakenUnit.{TakenUnit}
use Rattle.unit_text.specs.UnitText.{unit_lines}
use Rattle.unit_text.specs.Draft.{has, bare, next, kept, with_update, finished, updated, IsNamed, NoName, IsPut, IsEnd}
use Rattle.unit_text.specs.UnitReading.{HasText, BeginUnit, IsTaken, IsBadLine, AreCutOff}
use Rattle.unit_text.proofs.Forms.{NotEnd}
use Rattle.unit_text.proofs.Walks.{IsWhole}
use Rattle.unit_text.proofs.Drafts.{draft_parts, IsDraft}
use Rattle.unit_text.proofs.Puts.{puts}
use Rattle.unit_text.proofs.Takes.{ends_with, whole_with, goes_on, IsRefused, refuted, unended}

pub no_name : (line : List ℕ) (p : Part) → IsLineOf line p → ((name : UnitName) → p ≢ part.Name name) → NoName line
no_name line p is other name has = other name (one_part line p (part.Name name) is has)

pub refused_by : (line : List ℕ) (p : Part) (d : Draft) → IsLineOf line p → next d p ≡ None → IsRefused d line
refused_by line p d is none q has = ap (next d) (one_part line q p has is) ∙ none

pub bare_draft : (line : List ℕ) (name : UnitName) → IsLineOf line (part.Name name) → IsDraft (bare name)
bare_draft line name is = record {
  whole = All-cons IsWhole (part.Name name) [] (record { form = is.form; utf8 = is.utf8; spelling = refl }) (All-nil IsWhole);
  going = All-cons NotEnd (part.Name name) [] (λ e. cc) (All-nil NotEnd);
  few = omega arith;
  rising = λ k inside. absurd (omega arith);
  ordered = λ none. refl;
  ran = refl;
}

pub begun_draft : (line : List ℕ) (d : Draft) → IsNamed line d → IsDraft d
begun_draft line d n = subst IsDraft (sym n.bare) (bare_draft line n.name n.is)

pub begun_lines : (line : List ℕ) (d : Draft) → IsNamed line d → line ∷ [] ≡ map part_line (draft_parts d)
begun_lines line d n = (λ i. sym n.is.spelling i ∷ []) ∙ ap (λ e. map part_line (draft_parts e)) (sym n.bare)

module _ (d : Draft) (is : IsDraft d) (done : List (List ℕ)) (so_far : done ≡ map part_line (draft_parts d)) where
  begins : BeginUnit done
  begins =
      let g = goes_on d is in
      record {
        unit = g.unit;
        behind = part_line g.next_part ∷ map part_line g.behind;
        has_text = g.has_text;
        spelling = ap (map part_line) g.parts ∙ (map-append part_line (draft_parts d) (g.next_part ∷ g.behind) ∙ ap (λ l. l ++ part_line g.next_part ∷ map part_line g.behind) (sym so_far));
      }

  pub cut_off : AreCutOff done
  cut_off =
      let g = goes_on d is in
      record {
        unit = g.unit;
        next = part_line g.next_part;
        behind = map part_line g.behind;
        has_text = g.has_text;
        spelling = ap (map part_line) g.parts ∙ (map-append part_line (draft_parts d) (g.next_part ∷ g.behind) ∙ ap (λ l. l ++ part_line g.next_part ∷ map part_line g.behind) (sym so_far));
        none = λ u s has e. unended d is u has s (e ∙ so_far);
      }

  module _ (line : List ℕ) (r lines : List (List ℕ)) (at : ℕ) (split : lines ≡ done ++ line ∷ r) (place : at ≡ length done + 1) where
    fits : at ≤ length lines
    fits = subst (λ l. at ≤ length l) (sym split) (omega (arith, place, length-append done (line ∷ r)))

    front_of : take at lines ≡ done ++ line ∷ []
    front_of = (λ i. take (place i) (split i)) ∙ take-append-add done (line ∷ r) 1

    before : take (at - 1) lines ≡ done
    before = let less : at - 1 ≡ length done = omega (arith, place) in (λ i. take (less i) (split i)) ∙ take-append_seam done (line ∷ r)

    pub wrong : IsRefused d line → IsBadLine lines at
    wrong refused = record {
      some = omega (arith, place);
      within = fits;
      begins = subst BeginUnit (sym before) begins;
      first = λ b.
          refuted d is line refused b.unit b.has_text [] b.behind
          (append-nil (unit_lines b.unit) ∙ (b.spelling ∙ ((λ i. front_of i ++ b.behind) ∙ (append_assoc done (line ∷ []) b.behind ∙ ap (λ l. l ++ line ∷ b.behind) so_far))));
      none = λ u s has e. refuted d is line refused u has s r (e ∙ (split ∙ ap (λ l. l ++ line ∷ r) so_far));
    }

    ended_by : (o : Option Update) → d.update ≡ o → IsLineOf line part.End → (taken : TakenUnit) → updated d o ≡ Some taken.unit → taken.lines ≡ at → IsTaken lines taken
    ended_by None none end taken same count = absurd (cc)
    ended_by (Some u) there end taken same count =
        let unit : with_update d u ≡ taken.unit = cc in
        record {
          has_text = subst HasText unit (whole_with d is u there);
          within = subst (λ n. n ≤ length lines) (sym count) fits;
          spelling = ap (λ n. take n lines) count
              ∙ (front_of
              ∙ ((λ i. so_far i ++ sym end.spelling i ∷ [])
              ∙ (sym (map-append part_line (draft_parts d) (part.End ∷ [])) ∙ (ap (map part_line) (sym (ends_with d u there)) ∙ ap unit_lines unit))));
        }

    pub ended : IsLineOf line part.End → (taken : TakenUnit) → finished d ≡ Some taken.unit → taken.lines ≡ at → IsTaken lines taken
    ended end taken same count = ended_by d.update refl end taken same count

  pub more : (line : List ℕ) (d' : Draft) → IsPut line d d' → IsDraft d' × (done ++ line ∷ [] ≡ map part_line (draft_parts d'))
  more line d' p =
      let q = puts d is p.said d' (record { form = p.is.form; utf8 = p.is.utf8; spelling = refl }) p.goes_on p.put in (
        q.is,
        (λ i. so_far i ++ sym p.is.spelling i ∷ []) ∙ (sym (map-append part_line (draft_parts d) (p.said ∷ [])) ∙ ap (map part_line) (sym q.parts)),
      )

same_by : (g : Bool) (d d' : Draft) → kept g d ≡ Some d' → (g ≡ true) × (d' ≡ d)
same_by true d d' e = (refl, cc)
same_by false d d' e = absurd (cc)

pub end_same : (line : List ℕ) (d d' : Draft) → IsEnd line d d' → (has d.update ≡ true) × (d' ≡ d)
end_same line d d' end = same_by (has d.update) d d' end.put

-- lines read one after the other

pub seen_more : (first : List ℕ) (rest : List (Bor (List ℕ))) (k : ℕ) (b : Bor (List ℕ)) → k < length rest → first ∷ seen (take (k + 1) rest) ≡ (first ∷ seen (take k rest)) ++ (get_or rest k b).now ∷ []
seen_more first rest k b inside = ap (λ l. first ∷ seen l) (take_more rest k b inside) ∙ ap (λ l. first ∷ l) (map-append (λ s. s.now) (take k rest) (get_or rest k b ∷ []))

-- the line at a place, between those before and behind it
pub split_at : (first : List ℕ) (rest : List (Bor (List ℕ))) (k : ℕ) (b : Bor (List ℕ)) → k < length rest → first ∷ seen rest ≡ (first ∷ seen (take k rest)) ++ (get_or rest k b).now ∷ seen (drop (k + 1) rest)
split_at first rest k b inside =
    ap (λ l. first ∷ seen l) (sym (take-append-drop k rest) ∙ ap (λ l. take k rest ++ l) (drop_more rest k b inside))
    ∙ ap (λ l. first ∷ l) (map-append (λ s. s.now) (take k rest) (get_or rest k b ∷ drop (k + 1) rest))

pub done_long : (first : List ℕ) (rest : List (Bor (List ℕ))) (k : ℕ) → k ≤ length rest → length (first ∷ seen (take k rest)) ≡ k + 1
done_long first rest k within =
    let a : length (seen (take k rest)) ≡ length (take k rest) = length-map (take k rest) (λ s. s.now) in
    omega (arith, a, within, length-take k rest)

-- The end is read, and the unit is made.
pub taken_by : (d : Draft) (is : IsDraft d) (done : List (List ℕ)) (so_far : done ≡ map part_line (draft_parts d)) (line : List ℕ) (r lines : List (List ℕ)) (at : ℕ)
    → lines ≡ done ++ line ∷ r → at ≡ length done + 1 → (d' : Draft) → IsEnd line d d' → (result : Result TakenUnit BadLines)
    → MatchResult result (λ taken. (finished d' ≡ Some taken.unit) × (taken.lines ≡ at)) (λ _. ⊥) → IfOk result (IsTaken lines)
taken_by d is done so_far line r lines at split place d' end (Ok taken) made =
    let same = end_same line d d' end in
    ended d is done so_far line r lines at split place end.is taken (ap finished (sym same.1) ∙ made.0) made.1
taken_by d is done so_far line r lines at split place d' end (Err fault) made = absurd made
