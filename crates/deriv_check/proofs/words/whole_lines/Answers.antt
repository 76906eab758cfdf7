use Rattle.std.proofs.Common.{◌≡◌, ℕ, ◌-◌, List, rules, tests, arith, ◌==◌, take, map, length, Bor, sym, ap, ◌∙◌, vec_len}
use Rattle.std.specs.List.{slice_split}
use Rattle.std.proofs.lemmas.List.{take-map, length-map}
use Rattle.std.proofs.lemmas.Iterator.Consumers.{map_from_collect}
use Rattle.std.proofs.lemmas.Iterator.Splits.{YieldsList-from_slice_split}
use Rattle.deriv_check.proofs.words.whole_lines.Goals as goal

pub returns : goal.returns
returns c =
    let now = λ (s : Bor (List ℕ)). s.now in
    let lines = c.in_ok-lines.lines.items in
    let parts = slice_split (λ b. b == 10) c.args.text.now in
    let h = rw c.in_ok-lines.was at (map_from_collect _ c.collect.ensures.ran (YieldsList-from_slice_split _ (λ b. b == 10) c.args.text.now c.split.ensures.rest c.split.ensures.done c.split.ensures.closure (λ x r q k. search (rules, tests)))) in
    let n : vec_len c.in_ok-lines.lines ≡ length parts = omega (arith, c.in_ok-lines.lines.ok, ap length h, length-map lines now) in
    ap (map now) c.pop.ensures.rest ∙ sym (take-map now (vec_len c.in_ok-lines.lines - 1) lines) ∙ ap (take (vec_len c.in_ok-lines.lines - 1)) h ∙ ap (λ k. take (k - 1) parts) n
