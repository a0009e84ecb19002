-- A run under way: so many of the input's lines are answered. Assumes nothing.
use Rattle.std.proofs.Common.{◌≡◌, refl, sym, ap, subst, ◌∙◌, ℕ, ◌+◌, ◌-◌, ◌*◌, ◌/◌, ◌^◌, ◌<◌, ◌≤◌, List, [], ◌++◌, Option, Some, None, IfSome, length, take, drop, add-one, arith}
use borrow.Author.Tests.{ne_eqb}
use Rattle.std.proofs.lemmas.List.{length-drop}
use Rattle.std.specs.Io.KnownBytes.{Appends, Keeps}
use Rattle.std.proofs.KnownBytes.{Appends-nil, Appends-trans}
use Rattle.history.specs.Lines.{line_of}
use Rattle.history.specs.Replaying.{Played, Replayed, Ran, Session, answer_printed, opening, scene_of}
use Rattle.history.specs.Scenes.{Scene}
use Rattle.history.specs.declared.line.Line.{Line}
use Rattle.history.specs.declared.state.State.{State}
use Rattle.history.proofs.InputLaws.{LinesRead, behind, shorter, longer}

-- ---- a turn, which plays a line

pub record Turned {R S : Type 0} (lends : Line → ℕ) (calls : Line → Scene R S → Scene R S → Type 0) (prints : Line → State S → List ℕ → List ℕ)
    (line : Line) (old new : Session R S) (contents contents' : Option (List ℕ)) : Type 0 where
  pub played : Played lends calls line (scene_of line.set old) (scene_of line.set new)
  pub printed : Appends contents contents' (answer_printed lends prints line (scene_of line.set old) (scene_of line.set new))

pub scene_same : {R S : Type 0} {set place : ℕ} → set ≡ place → (s : Session R S) → scene_of place s ≡ scene_of set s
scene_same is s = ap (λ set. scene_of set s) (sym is)

pub scene_two : {R S : Type 0} {set : ℕ} → (set ≡ 0 → ⊥) → (set ≡ 1 → ⊥) → (s : Session R S) → scene_of 2 s ≡ scene_of set s
unfolding scene_of
scene_two {R} {S} {set} some more s = rw (ne_eqb set 0 some, ne_eqb set 1 more) refl

-- a line that is played on the scene of its set
pub turned : {R S : Type 0} (lends : Line → ℕ) (calls : Line → Scene R S → Scene R S → Type 0) (prints : Line → State S → List ℕ → List ℕ)
    (line : Line) (old new : Session R S) (contents contents' : Option (List ℕ)) (place : ℕ)
    → ((s : Session R S) → scene_of place s ≡ scene_of line.set s)
    → Played lends calls line (scene_of place old) (scene_of place new)
    → Appends contents contents' (answer_printed lends prints line (scene_of place old) (scene_of place new))
    → Turned lends calls prints line old new contents contents'
turned lends calls prints line old new contents contents' place same played printed =
    record {
      played =
          subst (λ s. Played lends calls line s (scene_of line.set new)) (same old)
          (subst (λ s. Played lends calls line (scene_of place old) s) (same new) played);
      printed =
          subst (λ s. Appends contents contents' (answer_printed lends prints line s (scene_of line.set new))) (same old)
          (subst (λ s. Appends contents contents' (answer_printed lends prints line (scene_of place old) s)) (same new) printed);
    }

-- ---- the lines so far

pub record UnderWay {R S : Type 0} (lends : Line → ℕ) (calls : Line → Scene R S → Scene R S → Type 0) (prints : Line → State S → List ℕ → List ℕ)
    (n : ℕ) (old new : Session R S) (contents contents' : Option (List ℕ)) (bytes : List ℕ) : Type 0 where
  pub output : List ℕ
  pub whole : 31 * n ≤ length bytes
  pub replayed : Replayed lends calls prints n bytes old new output
  pub printed : Appends contents contents' output

pub way_begin : {R S : Type 0} (lends : Line → ℕ) (calls : Line → Scene R S → Scene R S → Type 0) (prints : Line → State S → List ℕ → List ℕ)
    (s : Session R S) (contents a : Option (List ℕ)) → IfSome a (UnderWay lends calls prints 0 s s contents contents)
unfolding Replayed
way_begin lends calls prints s contents None = tt
way_begin lends calls prints s contents (Some bytes) =
    record { output = []; whole = omega arith; replayed = (refl, refl); printed = Appends-nil contents }

appends_kept : (a b c : Option (List ℕ)) (output : List ℕ) → Appends a b output → Keeps b c → Appends a c output
appends_kept None b c output grown kept = tt
appends_kept (Some xs) None c output grown kept = absurd grown
appends_kept (Some xs) (Some ys) None output grown kept = absurd kept
appends_kept (Some xs) (Some ys) (Some zs) output grown kept = kept ∙ grown

pub way_on : {R S : Type 0} (lends : Line → ℕ) (calls : Line → Scene R S → Scene R S → Type 0) (prints : Line → State S → List ℕ → List ℕ)
    (n : ℕ) (old mid new : Session R S) (before now then after a b : Option (List ℕ)) (found : Option Line) (line : Line)
    → IfSome a (UnderWay lends calls prints n old mid before now) → LinesRead a b n
    → IfSome b (λ bytes. found ≡ line_of (take 31 bytes)) → found ≡ Some line
    → Turned lends calls prints line mid new now then → Keeps then after
    → IfSome a (UnderWay lends calls prints (n + 1) old new before after)
unfolding Replayed
way_on lends calls prints n old mid new before now then after None b found line way read is some turn kept = tt
way_on lends calls prints n old mid new before now then after (Some bytes) b found line way read is some turn kept =
    let said : line_of (take 31 (drop (31 * n) bytes)) ≡ Some line = sym (behind b n bytes (λ left. found ≡ line_of (take 31 left)) read is) ∙ some in
    let more : 31 ≤ length (drop (31 * n) bytes) = longer _ line said in
    let printed = answer_printed lends prints line (scene_of line.set mid) (scene_of line.set new) in
    record {
      output = way.output ++ printed;
      whole = omega (arith, more, way.whole, length-drop (31 * n) bytes);
      replayed = rw (add-one n) (mid, way.output, way.replayed, record { line = line; said = said; played = turn.played; printed = refl });
      printed = appends_kept before then after (way.output ++ printed) (Appends-trans before now then way.output printed way.printed turn.printed) kept;
    }

-- ---- the end

-- no line is left
pub way_end : {R S : Type 0} (lends : Line → ℕ) (calls : Line → Scene R S → Scene R S → Type 0) (prints : Line → State S → List ℕ → List ℕ)
    (n : ℕ) (replay : R) (state : State S) (new : Session R S) (before now a b : Option (List ℕ)) (found : Option Line)
    → IfSome a (UnderWay lends calls prints n (opening replay state) new before now) → LinesRead a b n
    → IfSome b (λ bytes. found ≡ line_of (take 31 bytes)) → found ≡ None
    → IfSome a (λ bytes. length bytes < 2 ^ 64 → Ran lends calls prints bytes replay new.replay state new.state before now)
way_end lends calls prints n replay state new before now None b found way read is none = tt
way_end lends calls prints n replay state new before now (Some bytes) b found way read is none = λ small.
    let few : length (drop (31 * n) bytes) < 31 = shorter _ (sym (behind b n bytes (λ left. found ≡ line_of (take 31 left)) read is) ∙ none) in
    let all : n ≡ length bytes / 31 = omega (arith, few, way.whole, length-drop (31 * n) bytes) in
    record {
      end = new;
      output = way.output;
      replayed = subst (λ n. Replayed lends calls prints n bytes (opening replay state) new way.output) all way.replayed;
      replay-is = refl;
      state-is = refl;
      printed = way.printed;
    }

-- an input has no such number of lines
pub way_too_long : {R S : Type 0} (lends : Line → ℕ) (calls : Line → Scene R S → Scene R S → Type 0) (prints : Line → State S → List ℕ → List ℕ)
    (n : ℕ) (old new : Session R S) (before now a : Option (List ℕ)) (P : List ℕ → Type 0)
    → IfSome a (UnderWay lends calls prints n old new before now) → 2 ^ 64 - 1 ≤ n → IfSome a (λ bytes. length bytes < 2 ^ 64 → P bytes)
way_too_long lends calls prints n old new before now None P way most = tt
way_too_long lends calls prints n old new before now (Some bytes) P way most = λ small.
    let none : ⊥ = omega (arith, way.whole) in absurd none
