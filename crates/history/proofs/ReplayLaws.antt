-- Playing a line: the room that its set is lent, over which the calls are made. Assumes nothing.
use Rattle.std.proofs.Common.{◌≡◌, refl, sym, ap, subst, ◌∙◌, ℕ, ◌+◌, add-one, min, List, ◌++◌, length, take, drop, slice_index, take_at, drop_at}
use Rattle.history.specs.Lines.{following}
use Rattle.history.specs.Replaying.{nth_call, Calls, Played, answer_printed, begun, room}
use Rattle.history.specs.Scenes.{Scene}
use Rattle.history.specs.declared.line.Line.{Line}
use Rattle.history.specs.declared.state.State.{State}

pub nth_call-next : (n : ℕ) (line : Line) → nth_call (n + 1) line ≡ following (nth_call n line)
unfolding nth_call
nth_call-next n line = rw (add-one n) refl

-- one call more
pub calls_next : {R S : Type 0} (calls : Line → Scene R S → Scene R S → Type 0) (n : ℕ) (line nth : Line) (old mid new : Scene R S)
    → Calls calls n line old mid → nth ≡ nth_call n line → calls nth mid new → Calls calls (n + 1) line old new
unfolding Calls
calls_next calls n line nth old mid new before is made =
    rw (add-one n) (mid, before, subst (λ nth. calls nth mid new) is made)

-- what a line's set is lent once its calls have begun
room_lent : {R S : Type 0} (lends : Line → ℕ) (line : Line) (old : Scene R S) (s : State S) (end : ℕ) → s ≡ begun lends line old.state
    → end ≡ min (slice_index s.lent (min line.set 2)) (length old.own) → end ≡ room lends line old
room_lent lends line old s end start is =
    is ∙ ap (λ s. min (slice_index s.lent (min line.set 2)) (length old.own)) start

-- the calls are made over what is lent, and the rest of the buffer follows it
pub play_over : {R S : Type 0} (lends : Line → ℕ) (calls : Line → Scene R S → Scene R S → Type 0) (line : Line) (old : Scene R S)
    (s : State S) (end n : ℕ) (new : Scene R S) → s ≡ begun lends line old.state
    → end ≡ min (slice_index s.lent (min line.set 2)) (length old.own) → length new.own ≡ end → n ≡ line.times
    → Calls calls n line (record old { state = s; own = take end old.own }) new
    → Played lends calls line old (record new { own = new.own ++ drop end old.own })
play_over {R} {S} lends calls line old s end n new start is long all made =
    let lent = room_lent lends line old s end start is in
    let own = new.own in
    let rest = drop end old.own in
    let before : State S → ℕ → Scene R S = λ s end. record old { state = s; own = take end old.own } in
    let after : List ℕ → Scene R S = λ own. record new { own = own } in
    record {
      called =
          subst (λ n. Calls calls n line (before (begun lends line old.state) (room lends line old)) (after (take (room lends line old) (own ++ rest)))) all
          (subst (λ s. Calls calls n line (before s (room lends line old)) (after (take (room lends line old) (own ++ rest)))) start
          (subst (λ end. Calls calls n line (before s end) (after (take end (own ++ rest)))) lent
          (subst (λ own. Calls calls n line (before s end) (after own)) (sym (take_at own rest end long)) made)));
      kept = subst (λ room. drop room (own ++ rest) ≡ drop room old.own) lent (drop_at own rest end long);
    }

pub print_over : {R S : Type 0} (lends : Line → ℕ) (prints : Line → State S → List ℕ → List ℕ) (line : Line) (old : Scene R S)
    (s : State S) (end n : ℕ) (last : Line) (new : Scene R S) → s ≡ begun lends line old.state
    → end ≡ min (slice_index s.lent (min line.set 2)) (length old.own) → length new.own ≡ end → n ≡ line.times → last ≡ nth_call n line
    → prints last new.state new.own ≡ answer_printed lends prints line old (record new { own = new.own ++ drop end old.own })
print_over lends prints line old s end n last new start is long all nth =
    ap (λ last. prints last new.state new.own) (nth ∙ ap (λ n. nth_call n line) all)
    ∙ ap (prints (nth_call line.times line) new.state)
    (sym (take_at new.own (drop end old.own) (room lends line old) (long ∙ room_lent lends line old s end start is)))
