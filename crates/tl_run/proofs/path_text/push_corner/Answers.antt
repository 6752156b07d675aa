use Rattle.std.proofs.Common.{rules, ◌≡◌, ◌≤◌, ◌<◌, ◌-◌, ◌+◌, ℕ, List, [], ◌∷◌, ◌++◌, length, drop, refl, sym, ◌∙◌, ap, arith, append_assoc, Ok, Err}
use Rattle.std.specs.Prelude.{decimal, Result, IfOk, is_ok, if◌then◌else◌}
use Rattle.std.proofs.Math.ListN.{set}
use Rattle.std.proofs.lemmas.Fmt.{length-decimal-le}
use Rattle.std.proofs.lemmas.List.{drop-set, length-drop, take_all}
use Rattle.tl_definitions.specs.declared.Corner.{Corner}
use Rattle.tl_formats.specs.Texts.{line, corner_words}
use Rattle.tl_run.proofs.path_text.push_corner.Goals as goal

-- the line in a buffer, from its end: a line feed, a number, a space, a number
line-made : (v : Corner) (digits spaced whole : List ℕ) (s t : ℕ) → drop s digits ≡ decimal v.x ++ (10 ∷ []) → 0 < s → s ≤ length digits → spaced ≡ set digits (s - 1) 32
    → drop t whole ≡ decimal v.r ++ drop (s - 1) spaced → drop t whole ≡ line (corner_words v)
line-made v digits spaced whole s t is_digits positive within is_spaced is_whole =
    let from : (s - 1) + 1 ≡ s = omega arith in
    let inside : s - 1 < length digits = omega arith in
    let space : drop (s - 1) spaced ≡ 32 ∷ decimal v.x ++ (10 ∷ []) =
    ap (drop (s - 1)) is_spaced ∙ drop-set digits (s - 1) 32 inside ∙ ap (λ (n : ℕ). 32 ∷ drop n digits) from ∙ ap (λ (l : List ℕ). 32 ∷ l) is_digits in
    is_whole ∙ ap (λ (l : List ℕ). decimal v.r ++ l) space ∙ sym (append_assoc (decimal v.r) (32 ∷ decimal v.x) (10 ∷ []))

pub write_digits-space-requires : goal.write_digits-space-requires
write_digits-space-requires c = search (rules, length-decimal-le 10)

pub overflow_sub-space : goal.overflow_sub-space
overflow_sub-space c = let few : length (decimal c.from.result) ≤ 10 = search (rules, length-decimal-le 10) in omega arith

pub write_digits-start-requires : goal.write_digits-start-requires
write_digits-start-requires c =
    let few : length (decimal c.from.result) ≤ 10 = search (rules, length-decimal-le 10) in
    let few-2 : length (decimal c.from-2.result) ≤ 10 = search (rules, length-decimal-le 10) in
    search rules

appended : {E : Type 0} (result : Result (Unit {0}) E) (old new more whole : List ℕ) → new ≡ (if is_ok result then old ++ more else old) → more ≡ whole
    → IfOk result (λ x. new ≡ old ++ whole)
appended (Ok x) old new more whole e f = e ∙ ap (λ (l : List ℕ). old ++ l) f
appended (Err fault) old new more whole e f = tt

pub returns : goal.returns
returns c =
    let s = c.write_digits-space.result in
    let start = c.write_digits-start.result in
    let digits = c.write_digits-space.new.buf in
    let whole = c.write_digits-start.new.buf in
    let few : length (decimal c.from.result) ≤ 10 = search (rules, length-decimal-le 10) in
    let size : length whole ≤ 22 = omega arith in
    let x : drop s digits ≡ decimal c.args.corner.x ++ (10 ∷ []) = c.write_digits-space.ensures.written ∙ ap (λ (n : ℕ). decimal n ++ (10 ∷ [])) c.from.ensures in
    let r : drop start whole ≡ decimal c.args.corner.r ++ drop (s - 1) (set digits (s - 1) 32) =
    c.write_digits-start.ensures.written ∙ ap (λ (n : ℕ). decimal n ++ drop (s - 1) (set digits (s - 1) 32)) c.from-2.ensures in
    let is : drop start whole ≡ line (corner_words c.args.corner) = line-made c.args.corner digits (set digits (s - 1) 32) whole s start x (omega arith) (omega arith) refl r in
    appended c.extend_from_slice.result c.args.text.now.items c.extend_from_slice.new.self.items _ (line (corner_words c.args.corner)) c.extend_from_slice.ensures.items
    (take_all (22 - start) (drop start whole) (omega (arith, length-drop start whole)) ∙ is)
