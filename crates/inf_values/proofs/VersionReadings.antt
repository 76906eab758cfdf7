-- Each text denotes one version, or none.
use Rattle.std.proofs.Common.{◌≡◌, ℕ, suc, ◌<◌, Bool, true, false, Option, Some, None, option_and_then, List, [], ◌∷◌, length, get_or, take, refl, ap, sym, ◌∙◌, arith}
use Rattle.osgi_version.specs.VersionText.{DenotesVersion, IsVersionText}
use Rattle.osgi_version.specs.VersionSteps.{Progress, beginning, step, is_whole}
use Rattle.osgi_version.specs.declared.version.Version.{Version}
use Rattle.osgi_version.proofs.VersionPlaces.{DenotesVersion-unique, DenotesVersion-whole, IsLongestBegin-stopped, refused_open, refused_beyond}
use Rattle.inf_values.specs.Readings.{Reads}

-- the progress behind these bytes, where each may follow
abbrev run : List ℕ → Progress → Option Progress
run [] p = Some p
run (b ∷ bytes) p = option_and_then (run bytes) (step p b)

-- where the reading of a text gets no further
record Stop (bytes : List ℕ) (p : Progress) : Type 0 where
  pub at : ℕ
  pub last : Progress
  pub inside : at < length bytes
  pub front : run (take at bytes) p ≡ Some last
  pub stuck : step last (get_or bytes at 0) ≡ None

stopped : (bytes : List ℕ) (p : Progress) → run bytes p ≡ None → Stop bytes p
stopped [] p e = absurd (cc)
stopped (b ∷ bytes) p e = by (step p b) refl (stopped bytes)
  where
    by : (o : Option Progress) → step p b ≡ o → ((q : Progress) → run bytes q ≡ None → Stop bytes q) → Stop (b ∷ bytes) p
    by None stuck behind = record { at = 0; last = p; inside = omega arith; front = refl; stuck = stuck }
    by (Some q) stepped behind =
        let rest = behind q (sym (ap (option_and_then (run bytes)) stepped) ∙ e) in
        let inside = rest.inside in
        record {
          at = suc rest.at;
          last = rest.last;
          inside = omega arith;
          front = ap (option_and_then (run (take rest.at bytes))) stepped ∙ rest.front;
          stuck = rest.stuck;
        }

not_read : (text : List ℕ) → run text beginning ≡ None → ¬ (IsVersionText text)
not_read text e =
    let s = stopped text beginning e in
    refused_beyond text s.at (IsLongestBegin-stopped text s.at s.last s.inside s.front s.stuck) s.inside

-- the version that the text denotes, where it denotes one
found : (text : List ℕ) (o : Option Progress) → run text beginning ≡ o → (v : Option Version) × Reads DenotesVersion text v
found text None e = (None, λ v d. not_read text e (v, d))
found text (Some p) e = by (is_whole p.stage) refl
  where
    by : (whole : Bool) → is_whole p.stage ≡ whole → (v : Option Version) × Reads DenotesVersion text v
    by true whole = (Some p.version, DenotesVersion-whole text p e whole)
    by false whole = (None, λ v d. refused_open text p e whole (v, d))

pub version_read : (text : List ℕ) → (v : Option Version) × Reads DenotesVersion text v
version_read text = found text (run text beginning) refl

-- The reading is the only one.
pub version_once : (text : List ℕ) (a b : Option Version) → Reads DenotesVersion text a → Reads DenotesVersion text b → a ≡ b
version_once text None None one other = refl
version_once text None (Some w) one other = absurd (one w other)
version_once text (Some v) None one other = absurd (other v one)
version_once text (Some v) (Some w) one other = ap Some (DenotesVersion-unique text v w one other)
