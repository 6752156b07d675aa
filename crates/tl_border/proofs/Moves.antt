-- Each kind of step keeps the rule of a direction, and what it tells its pass.
use Rattle.std.proofs.Common.{◌≡◌, ◌⊎◌, ℕ, zero, suc, ◌+◌, List, [], ◌∷◌, ◌++◌, length, map, set, sym, refl, ap, ◌∙◌, subst, inl, inr, ⊎_elim, arith, length-append}
use Rattle.std.specs.Prelude.{Some, slice_get}
use mathlib.Core.Option.{some, some-injective, some-ne-none}
use lib.ListN.{get_elem?}
use Rattle.std.proofs.lemmas.List.{map-append}
use Rattle.std.proofs.lemmas.Option.{slice_get_within}
use Rattle.crossbeam_queue.specs.Fifo.{Pushes, Pops, Forks, Learns}
use Rattle.tl_border.specs.declared.row.Row.{Row}
use Rattle.tl_border.specs.declared.row.Side.{Side}
use Rattle.tl_border.specs.declared.job.JobRows.{JobRows}
use Rattle.tl_border.specs.declared.line.PassView.{PassView}
use Rattle.tl_border.specs.declared.line.Role.{Role}
use Rattle.tl_border.specs.declared.line.Role.TheVariants.{Opener, Sender, Receiver, Spent}
use Rattle.tl_border.specs.Rows.{bits_of_row, rows_of}
use Rattle.tl_border.specs.Rule.{opener, spent, sender_of, receiver_of, IsLine, IsOpened, IsUnopened, AreSpent, Keeps, IsAtWork, after_step, after_failure, IsSent, IsGot, HoldsAtMost, HoldsAtLeast}
use Rattle.tl_border.proofs.Queued.{one_in, one_out}

abbrev IsWorking : Role → Type 0
IsWorking Opener = ⊥
IsWorking Sender = Unit {0}
IsWorking Receiver = Unit {0}
IsWorking Spent = ⊥

abbrev IsSending : Role → Type 0
IsSending Opener = ⊥
IsSending Sender = Unit {0}
IsSending Receiver = ⊥
IsSending Spent = ⊥

sender_works : (v : PassView) → v.role ≡ Sender → IsWorking v.role
sender_works v role = subst IsWorking (sym role) tt

receiver_works : (v : PassView) → v.role ≡ Receiver → IsWorking v.role
receiver_works v role = subst IsWorking (sym role) tt

sends_or_gets : (v w : PassView) → v.role ≡ Sender → w.role ≡ Receiver → v ≡ w → ⊥
sends_or_gets v w sends gets e = subst IsSending (sym sends ∙ ap (λ (y : PassView). y.role) e ∙ gets) tt

-- where a pass with a role for work stands
abbrev Standing : List PassView → PassView → PassView → List PassView → ℕ → PassView → Type 0
Standing views s r others port v =
    ((v ≡ s) × ((w : PassView) → set views port w ≡ w ∷ r ∷ others))
    ⊎ ((v ≡ r) × ((w : PassView) → set views port w ≡ s ∷ w ∷ others))

none_spent : (others : List PassView) (port : ℕ) (v : PassView) → AreSpent others → get_elem? others port ≡ some v → v.role ≡ Spent
none_spent [] port v done at = absurd (some-ne-none v (sym at))
none_spent (u ∷ others) zero v done at = ap (λ (y : PassView). y.role) (sym (some-injective u v at)) ∙ done.0
none_spent (u ∷ others) (suc port) v done at = none_spent others port v done.1 at

stands_in : (s r : PassView) (others : List PassView) (port : ℕ) (v : PassView) → AreSpent others → IsWorking v.role
    → get_elem? (s ∷ r ∷ others) port ≡ some v → Standing (s ∷ r ∷ others) s r others port v
stands_in s r others zero v done works at = inl (sym (some-injective s v at), λ w. refl)
stands_in s r others (suc zero) v done works at = inr (sym (some-injective r v at), λ w. refl)
stands_in s r others (suc (suc port)) v done works at = absurd (subst IsWorking (none_spent others port v done at) works)

stands : (items : List Row) (views : List PassView) (o : IsOpened items views) (port : ℕ) (v : PassView) → IsWorking v.role
    → get_elem? views port ≡ some v → Standing views o.sender o.receiver o.others port v
stands items views o port v works at =
    subst (λ (l : List PassView). Standing l o.sender o.receiver o.others port v) (sym o.views_are)
    (stands_in o.sender o.receiver o.others port v o.done works (ap (λ (l : List PassView). get_elem? l port) (sym o.views_are) ∙ at))

opener_role : (port : ℕ) (v : PassView) → IsWorking v.role → get_elem? (opener ∷ []) port ≡ some v → ⊥
opener_role zero v works at = subst (λ (y : PassView). IsWorking y.role) (sym (some-injective opener v at)) works
opener_role (suc port) v works at = absurd (some-ne-none v (sym at))

-- a pass is at work only once the direction is opened
opened : (items : List Row) (views : List PassView) (port : ℕ) (v : PassView) → Keeps items views → IsWorking v.role → get_elem? views port ≡ some v → IsOpened items views
opened items views port v keeps works at = ⊎_elim (λ u. absurd (opener_role port v works (ap (λ (l : List PassView). get_elem? l port) (sym u.1) ∙ at))) (λ o. o) keeps

-- the sender's step is a step of the line
sender_step : (items after : List Row) (views : List PassView) (port : ℕ) (v w : PassView) → Keeps items views → v.role ≡ Sender → get_elem? views port ≡ some v
    → ((r : PassView) → IsLine items v r → IsLine after w r) → IsOpened after (set views port w)
sender_step items after views port v w keeps role at go =
    let o = opened items views port v keeps (sender_works v role) at in
    ⊎_elim
    (λ (x : (v ≡ o.sender) × ((u : PassView) → set views port u ≡ u ∷ o.receiver ∷ o.others)).
    record { sender = w; receiver = o.receiver; others = o.others; views_are = x.1 w; line = go o.receiver (subst (λ (y : PassView). IsLine items y o.receiver) (sym x.0) o.line); done = o.done })
    (λ (x : (v ≡ o.receiver) × ((u : PassView) → set views port u ≡ o.sender ∷ u ∷ o.others)). absurd (sends_or_gets v o.receiver role o.line.gets x.0))
    (stands items views o port v (sender_works v role) at)

receiver_step : (items after : List Row) (views : List PassView) (port : ℕ) (v w : PassView) → Keeps items views → v.role ≡ Receiver → get_elem? views port ≡ some v
    → ((s : PassView) → IsLine items s v → IsLine after s w) → IsOpened after (set views port w)
receiver_step items after views port v w keeps role at go =
    let o = opened items views port v keeps (receiver_works v role) at in
    ⊎_elim
    (λ (x : (v ≡ o.sender) × ((u : PassView) → set views port u ≡ u ∷ o.receiver ∷ o.others)). absurd (sends_or_gets o.sender v o.line.sends role (sym x.0)))
    (λ (x : (v ≡ o.receiver) × ((u : PassView) → set views port u ≡ o.sender ∷ u ∷ o.others)).
    record { sender = o.sender; receiver = w; others = o.others; views_are = x.1 w; line = go o.sender (subst (λ (y : PassView). IsLine items o.sender y) (sym x.0) o.line); done = o.done })
    (stands items views o port v (receiver_works v role) at)

sender_knows : (items : List Row) (views : List PassView) (port : ℕ) (v : PassView) → Keeps items views → v.role ≡ Sender → get_elem? views port ≡ some v
    → (r : PassView) × IsLine items v r
sender_knows items views port v keeps role at =
    let o = opened items views port v keeps (sender_works v role) at in
    ⊎_elim
    (λ (x : (v ≡ o.sender) × ((u : PassView) → set views port u ≡ u ∷ o.receiver ∷ o.others)). (o.receiver, subst (λ (y : PassView). IsLine items y o.receiver) (sym x.0) o.line))
    (λ (x : (v ≡ o.receiver) × ((u : PassView) → set views port u ≡ o.sender ∷ u ∷ o.others)). absurd (sends_or_gets v o.receiver role o.line.gets x.0))
    (stands items views o port v (sender_works v role) at)

receiver_knows : (items : List Row) (views : List PassView) (port : ℕ) (v : PassView) → Keeps items views → v.role ≡ Receiver → get_elem? views port ≡ some v
    → (s : PassView) × IsLine items s v
receiver_knows items views port v keeps role at =
    let o = opened items views port v keeps (receiver_works v role) at in
    ⊎_elim
    (λ (x : (v ≡ o.sender) × ((u : PassView) → set views port u ≡ u ∷ o.receiver ∷ o.others)). absurd (sends_or_gets o.sender v o.line.sends role (sym x.0)))
    (λ (x : (v ≡ o.receiver) × ((u : PassView) → set views port u ≡ o.sender ∷ u ∷ o.others)). (o.sender, subst (λ (y : PassView). IsLine items o.sender y) (sym x.0) o.line))
    (stands items views o port v (receiver_works v role) at)

-- ---- the making of the two passes
pub begins : Keeps [] (opener ∷ [])
begins = inl (refl, refl)

pub empty_line : (job : JobRows) (from : Side) → IsLine [] (sender_of job from 0 0 0) (receiver_of job from 0 0 0)
empty_line job from = record {
  sends = refl;
  gets = refl;
  one_job = refl;
  one_side = refl;
  sent_within = omega arith;
  got_within = omega arith;
  queued = refl;
  at_most = omega arith;
  at_least = omega arith;
  held_within = omega arith;
}

set_first : (port : ℕ) (v a b : PassView) → get_elem? (opener ∷ []) port ≡ some v → set (opener ∷ []) port a ++ b ∷ [] ≡ a ∷ b ∷ []
set_first zero v a b at = refl
set_first (suc port) v a b at = absurd (some-ne-none v (sym at))

abbrev IsOpening : Role → Type 0
IsOpening Opener = Unit {0}
IsOpening Sender = ⊥
IsOpening Receiver = ⊥
IsOpening Spent = ⊥

none_opens : (s r : PassView) (others : List PassView) (port : ℕ) → s.role ≡ Sender → r.role ≡ Receiver → AreSpent others
    → get_elem? (s ∷ r ∷ others) port ≡ some opener → ⊥
none_opens s r others zero sends gets done at = subst IsOpening (ap (λ (y : PassView). y.role) (sym (some-injective s opener at)) ∙ sends) tt
none_opens s r others (suc zero) sends gets done at = subst IsOpening (ap (λ (y : PassView). y.role) (sym (some-injective r opener at)) ∙ gets) tt
none_opens s r others (suc (suc port)) sends gets done at = subst IsOpening (none_spent others port opener done at) tt

pub opens : (port : ℕ) (v : PassView) (job : JobRows) (from : Side) → v ≡ opener → Forks Keeps port v (sender_of job from 0 0 0) (receiver_of job from 0 0 0)
opens port v job from is items views keeps at =
    let s = sender_of job from 0 0 0 in
    let r = receiver_of job from 0 0 0 in
    let found : get_elem? views port ≡ some opener = at ∙ ap some is in
    ⊎_elim
    (λ (u : IsUnopened items views). inr (record {
      sender = s;
      receiver = r;
      others = [];
      views_are = ap (λ (l : List PassView). set l port s ++ r ∷ []) u.1 ∙ set_first port opener s r (ap (λ (l : List PassView). get_elem? l port) (sym u.1) ∙ found);
      line = subst (λ (l : List Row). IsLine l s r) (sym u.0) (empty_line job from);
      done = tt;
    }))
    (λ (o : IsOpened items views). absurd (none_opens o.sender o.receiver o.others port o.line.sends o.line.gets o.done (ap (λ (l : List PassView). get_elem? l port) (sym o.views_are) ∙ found)))
    keeps

-- ---- a push
put_in : (items : List Row) (v r : PassView) (x : Row) → slice_get (rows_of v.job v.from) v.count ≡ Some (bits_of_row x) → IsLine items v r
    → IsLine (items ++ x ∷ []) (after_step v (length items + 1)) r
put_in items v r x next l =
    let inside = slice_get_within (rows_of v.job v.from) v.count (bits_of_row x) next in
    let longer = length-append items (x ∷ []) in
    let least = l.at_least in
    let most = l.at_most in
    let held = l.held_within in
    let got = l.got_within in
    record {
      sends = l.sends;
      gets = l.gets;
      one_job = l.one_job;
      one_side = l.one_side;
      sent_within = omega arith;
      got_within = omega arith;
      queued = map-append bits_of_row items (x ∷ []) ∙ ap (λ ps. ps ++ bits_of_row x ∷ []) l.queued ∙ sym (one_in (rows_of v.job v.from) r.count v.count (bits_of_row x) got next);
      at_most = omega arith;
      at_least = omega arith;
      held_within = omega arith;
    }

pub sends : (n port : ℕ) (v : PassView) (x : Row) → n ≡ 2 → v.role ≡ Sender → slice_get (rows_of v.job v.from) v.count ≡ Some (bits_of_row x) → Pushes Keeps n port v x (IsSent v)
sends n port v x two role next items views room keeps at =
    let w = after_step v (length items + 1) in
    (w, inr (sender_step items (items ++ x ∷ []) views port v w keeps role at (λ r. put_in items v r x next)), (refl, omega arith))

pub finds_full : (port : ℕ) (v : PassView) → v.role ≡ Sender → Learns Keeps port v (HoldsAtMost v)
finds_full port v role items views keeps at = let known = sender_knows items views port v keeps role at in (known.1.at_most, known.1.held_within)

-- ---- a pop
taken_out : (items : List Row) (s v : PassView) (x : Row) → IsLine (x ∷ items) s v
    → IsLine items s (after_step v (length items)) × (slice_get (rows_of v.job v.from) v.count ≡ Some (bits_of_row x))
taken_out items s v x l =
    let out = one_out (rows_of s.job s.from) v.count s.count (bits_of_row x) (map bits_of_row items) l.queued in
    let below = out.1 in
    let most = l.at_most in (
      record {
        sends = l.sends;
        gets = l.gets;
        one_job = l.one_job;
        one_side = l.one_side;
        sent_within = l.sent_within;
        got_within = omega arith;
        queued = out.2;
        at_most = omega arith;
        at_least = omega arith;
        held_within = l.held_within;
      },
      ap (λ job. slice_get (rows_of job v.from) v.count) l.one_job ∙ ap (λ from. slice_get (rows_of s.job from) v.count) l.one_side ∙ out.0,
    )

pub gets : (port : ℕ) (v : PassView) → v.role ≡ Receiver → Pops Keeps port v (IsGot v)
gets port v role x items views keeps at =
    let w = after_step v (length items) in
    let known = receiver_knows (x ∷ items) views port v keeps role at in (
      w,
      inr (receiver_step (x ∷ items) items views port v w keeps role at (λ s l. (taken_out items s v x l).0)),
      (refl, (taken_out items known.0 v x known.1).1),
    )

pub finds_empty : (port : ℕ) (v : PassView) → v.role ≡ Receiver → Learns Keeps port v (HoldsAtLeast v)
finds_empty port v role items views keeps at = (receiver_knows items views port v keeps role at).1.at_least

-- ---- a push that is refused, and a pop on an empty queue
sender_fails : (items : List Row) (v r : PassView) → IsLine items v r → IsLine items (after_failure v) r
sender_fails items v r l = record { sends = l.sends; gets = l.gets; one_job = l.one_job; one_side = l.one_side; sent_within = l.sent_within; got_within = l.got_within; queued = l.queued; at_most = l.at_most; at_least = l.at_least; held_within = l.held_within }

receiver_fails : (items : List Row) (s v : PassView) → IsLine items s v → IsLine items s (after_failure v)
receiver_fails items s v l = record { sends = l.sends; gets = l.gets; one_job = l.one_job; one_side = l.one_side; sent_within = l.sent_within; got_within = l.got_within; queued = l.queued; at_most = l.at_most; at_least = l.at_least; held_within = l.held_within }

all_spent : (others : List PassView) → AreSpent others → AreSpent (others ++ spent ∷ [])
all_spent [] done = (refl, tt)
all_spent (u ∷ others) done = (done.0, all_spent others done.1)

one_spent : (items : List Row) (views : List PassView) → IsOpened items views → Keeps items (views ++ spent ∷ [])
one_spent items views o = inr (record {
  sender = o.sender;
  receiver = o.receiver;
  others = o.others ++ spent ∷ [];
  views_are = ap (λ (l : List PassView). l ++ spent ∷ []) o.views_are;
  line = o.line;
  done = all_spent o.others o.done;
})

pub fails : (port : ℕ) (v : PassView) → IsAtWork v → Forks Keeps port v (after_failure v) spent
fails port v works items views keeps at =
    let w = after_failure v in
    one_spent items (set views port w) (⊎_elim
    (λ (role : v.role ≡ Sender). sender_step items items views port v w keeps role at (λ r. sender_fails items v r))
    (λ (role : v.role ≡ Receiver). receiver_step items items views port v w keeps role at (λ s. receiver_fails items s v))
    works)
