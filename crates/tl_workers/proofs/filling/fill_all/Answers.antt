use Rattle.std.proofs.Common.{◌≡◌, ◌<◌, ℕ, length, map, get_or, refl, sym, ap, ◌∙◌, subst, arith, Some}
use Rattle.std.proofs.lemmas.List.{length-map}
use Rattle.std.proofs.lemmas.Option.{same_Some}
use Rattle.std.proofs.lemmas.Result.{IfOk-weaker}
use Rattle.tl_board.specs.declared.caller.Left.TheVariants.{Posted}
use Rattle.tl_workers.specs.Filled.{AreFilled}
use Rattle.std.proofs.lemmas.List.Elements.{All-same, All-map}
use Rattle.tl_board.specs.Calls.{view, IsCallerOf}
use Rattle.tl_board.proofs.Stated.{none_out}
use Rattle.tl_workers.specs.Seats.{IsIdle, IsDone, Serves}
use Rattle.tl_workers.proofs.Lists.{All-of_map}
use Rattle.tl_workers.proofs.Opened.{of_job, as_many, each_fresh}
use Rattle.tl_workers.proofs.Worked.{of_seats, each_after, all_done}
use Rattle.tl_workers.proofs.Closed.{all_posted, are_filled}
use Rattle.tl_workers.proofs.filling.fill_all.Goals as goal

pub seats_of-requires-clause-count : goal.seats_of-requires-clause-count
seats_of-requires-clause-count g c κs within = let callers = c.in_ok-board.callers.items in
    let views = of_job g.P.Piece.job c.requires.job.0 c.args.blanks.items _ _ _ c.requires.blanks.0 c.requires.job.1 c.in_ok-board.ensures.views in
    let n = as_many callers view c.requires.job.0 _ _ views in omega (arith, n, c.len.ensures, c.args.workers.ok.0)

pub work_all-requires-clause-callers : goal.work_all-requires-clause-callers
work_all-requires-clause-callers g c κs within = let seats = c.in_ok-seats.seats.items in
    All-same (λ s. IsCallerOf c.in_ok-board.board s.caller) _ seats c.as_mut_slice.ensures.value
    (All-of_map seats c.in_ok-board.callers.items (λ s. s.caller) (IsCallerOf c.in_ok-board.board) c.in_ok-seats.ensures.callers c.in_ok-board.ensures.callers.1)

pub work_all-requires-clause-idle : goal.work_all-requires-clause-idle
work_all-requires-clause-idle g c κs within = let seats = c.in_ok-seats.seats.items in let callers = c.in_ok-board.callers.items in
    let views = of_job g.P.Piece.job c.requires.job.0 c.args.blanks.items _ _ _ c.requires.blanks.0 c.requires.job.1 c.in_ok-board.ensures.views in
    let idle = each_fresh callers view c.requires.job.0 _ _ views IsIdle (λ k. record { all_posted = refl; none_taken = refl }) in
    All-same (λ s. IsIdle (view s.caller)) _ seats c.as_mut_slice.ensures.value (All-of_map seats callers (λ s. s.caller) (λ a. IsIdle (view a)) c.in_ok-seats.ensures.callers idle)

pub work_all-requires-clause-served : goal.work_all-requires-clause-served
work_all-requires-clause-served g c κs within = let seats = c.in_ok-seats.seats.items in let callers = c.in_ok-board.callers.items in let job = c.requires.job.0 in
    let serves = g.W.Worker.serves in
    let views = of_job g.P.Piece.job job c.args.blanks.items _ _ _ c.requires.blanks.0 c.requires.job.1 c.in_ok-board.ensures.views in
    let jobs = each_fresh callers view job _ _ views (λ v. v.job ≡ Some job) (λ k. refl) in
    let of_seats = All-of_map seats callers (λ s. s.caller) (λ a. (view a).job ≡ Some job) c.in_ok-seats.ensures.callers jobs in
    let served = All-of_map seats c.args.workers.items (λ s. s.worker) (λ w. serves w job) c.in_ok-seats.ensures.workers c.requires.job.2 in
    All-same (λ s. Serves serves (view s.caller) s.worker) _ seats c.as_mut_slice.ensures.value
    (λ k d near other is. subst (serves _) (same_Some job other (sym (of_seats k d near) ∙ is)) (served k d near))

pub close-requires-clause-callers : goal.close-requires-clause-callers
close-requires-clause-callers g c κs within =
    let before = c.as_mut_slice.result.now in let after = c.work_all.new.seats in let callers = c.in_ok-callers.callers.items in
    let long : length after ≡ length before = c.work_all.auto.seats in
    let are = of_seats after c.in_ok-seats.seats.items callers (λ s. s.caller) c.in_ok-seats.seats.len c.in_ok-callers.ensures (long ∙ c.as_mut_slice.ensures.len) in
    let job = c.requires.job.0 in let count : ℕ = length c.args.blanks.items in let first = c.in_ok-board.callers.items in
    let views = of_job g.P.Piece.job job c.args.blanks.items _ _ _ c.requires.blanks.0 c.requires.job.1 c.in_ok-board.ensures.views in
    let n = as_many first view job _ _ views in (
      omega (arith, n, ap length are, length-map after (λ s. s.caller), long, ap length c.as_mut_slice.ensures.value, length-map c.in_ok-seats.seats.items (λ s. s.caller), ap length c.in_ok-seats.ensures.callers, c.in_ok-board.ensures.callers.0),
      each_after before after callers (λ s. s.caller) view long are (IsCallerOf c.in_ok-board.board) c.work_all.ensures.callers,
    )

pub close-requires-clause-none_out : goal.close-requires-clause-none_out
close-requires-clause-none_out g c κs within =
    let before = c.as_mut_slice.result.now in let after = c.work_all.new.seats in let callers = c.in_ok-callers.callers.items in
    let long : length after ≡ length before = c.work_all.auto.seats in
    let are = of_seats after c.in_ok-seats.seats.items callers (λ s. s.caller) c.in_ok-seats.seats.len c.in_ok-callers.ensures (long ∙ c.as_mut_slice.ensures.len) in
    let job = c.requires.job.0 in let count : ℕ = length c.args.blanks.items in let first = c.in_ok-board.callers.items in
    let views = of_job g.P.Piece.job job c.args.blanks.items _ _ _ c.requires.blanks.0 c.requires.job.1 c.in_ok-board.ensures.views in
    let had = each_fresh first view job _ _ views (λ v. (v.job ≡ Some job) × (v.count ≡ count)) (λ k. (refl, refl)) in
    let of_each = All-same (λ s. ((view s.caller).job ≡ Some job) × ((view s.caller).count ≡ count)) before c.in_ok-seats.seats.items c.as_mut_slice.ensures.value
    (All-of_map c.in_ok-seats.seats.items first (λ s. s.caller) (λ a. ((view a).job ≡ Some job) × ((view a).count ≡ count)) c.in_ok-seats.ensures.callers had) in
    let done = all_done before after callers (λ s. s.caller) view long are job count of_each c.work_all.ensures.done in
    λ k d near. none_out (view (get_or callers k d)) (done k d near).idle.all_posted

pub pieces_of-requires : goal.pieces_of-requires
pieces_of-requires g c =
    let before = c.as_mut_slice.result.now in let after = c.work_all.new.seats in let callers = c.in_ok-callers.callers.items in
    let long : length after ≡ length before = c.work_all.auto.seats in
    let are = of_seats after c.in_ok-seats.seats.items callers (λ s. s.caller) c.in_ok-seats.seats.len c.in_ok-callers.ensures (long ∙ c.as_mut_slice.ensures.len) in
    let job = c.requires.job.0 in let count : ℕ = length c.args.blanks.items in let first = c.in_ok-board.callers.items in
    let views = of_job g.P.Piece.job job c.args.blanks.items _ _ _ c.requires.blanks.0 c.requires.job.1 c.in_ok-board.ensures.views in
    let had = each_fresh first view job _ _ views (λ v. (v.job ≡ Some job) × (v.count ≡ count)) (λ k. (refl, refl)) in
    let of_each = All-same (λ s. ((view s.caller).job ≡ Some job) × ((view s.caller).count ≡ count)) before c.in_ok-seats.seats.items c.as_mut_slice.ensures.value
    (All-of_map c.in_ok-seats.seats.items first (λ s. s.caller) (λ a. ((view a).job ≡ Some job) × ((view a).count ≡ count)) c.in_ok-seats.ensures.callers had) in
    let done = all_done before after callers (λ s. s.caller) view long are job count of_each c.work_all.ensures.done in
    let n = as_many first view job _ _ views in
    let some_view : 0 < length (map view callers) = omega (
      arith,
      n,
      length-map callers view,
      ap length are,
      length-map after (λ s. s.caller),
      long,
      ap length c.as_mut_slice.ensures.value,
      length-map c.in_ok-seats.seats.items (λ s. s.caller),
      ap length c.in_ok-seats.ensures.callers,
      c.len.ensures,
      c.args.workers.ok.0,
      c.requires.workers.0,
    ) in
    let all = All-map (IsDone (Some job) count) view callers done in
    all_posted g.P.Piece.job g.P.Piece.filled_for job count _ (map view callers) c.in_ok-left.left.items some_view all c.in_ok-left.ensures

pub returns : goal.returns
returns g c =
    let before = c.as_mut_slice.result.now in let after = c.work_all.new.seats in let callers = c.in_ok-callers.callers.items in
    let long : length after ≡ length before = c.work_all.auto.seats in
    let are = of_seats after c.in_ok-seats.seats.items callers (λ s. s.caller) c.in_ok-seats.seats.len c.in_ok-callers.ensures (long ∙ c.as_mut_slice.ensures.len) in
    let job = c.requires.job.0 in let count : ℕ = length c.args.blanks.items in let first = c.in_ok-board.callers.items in
    let views = of_job g.P.Piece.job job c.args.blanks.items _ _ _ c.requires.blanks.0 c.requires.job.1 c.in_ok-board.ensures.views in
    let had = each_fresh first view job _ _ views (λ v. (v.job ≡ Some job) × (v.count ≡ count)) (λ k. (refl, refl)) in
    let of_each = All-same (λ s. ((view s.caller).job ≡ Some job) × ((view s.caller).count ≡ count)) before c.in_ok-seats.seats.items c.as_mut_slice.ensures.value
    (All-of_map c.in_ok-seats.seats.items first (λ s. s.caller) (λ a. ((view a).job ≡ Some job) × ((view a).count ≡ count)) c.in_ok-seats.ensures.callers had) in
    let done = all_done before after callers (λ s. s.caller) view long are job count of_each c.work_all.ensures.done in
    let n = as_many first view job _ _ views in
    let some_view : 0 < length (map view callers) = omega (
      arith,
      n,
      length-map callers view,
      ap length are,
      length-map after (λ s. s.caller),
      long,
      ap length c.as_mut_slice.ensures.value,
      length-map c.in_ok-seats.seats.items (λ s. s.caller),
      ap length c.in_ok-seats.ensures.callers,
      c.len.ensures,
      c.args.workers.ok.0,
      c.requires.workers.0,
    ) in
    let all = All-map (IsDone (Some job) count) view callers done in
    let filled = are_filled g.P.Piece.job g.P.Piece.filled_for job count _ (map view callers) c.in_ok-left.left.items some_view all c.in_ok-left.ensures c.args.blanks.items in
    IfOk-weaker c.pieces_of.result (λ pieces. map Posted pieces.items ≡ c.in_ok-left.left.items) (λ pieces. AreFilled g.P.Piece.job g.P.Piece.filled_for c.args.blanks.items pieces.items)
    (λ pieces told. filled pieces.items c.requires.job.1 refl told) c.pieces_of.ensures
