-- The message at a cursor and the cursor behind it, by the tests that decide them.
-- Assumes nothing.
use mathlib.Core.Path.{◌≡◌, refl, ap, ◌∙◌, sym}
use mathlib.Core.Bool.{Bool, true, false}
use mathlib.Core.List.{List}
use Prim.Native.Nat.{ℕ, ◌+◌, ◌-◌, ◌≤◌, ◌<◌}
use native.Mathlib.Omega.{arith}
use borrow.Author.Tests.{lt-ltb, eq-eqb, ne_eqb, eqb-true, eqb-false}
use lib.Dec.{eqb}
use lib.ListN.{length}
use Rattle.packet.specs.Header.{header_in}
use Rattle.std.proofs.Common.{Option, Some, None}
use Rattle.refusals.specs.Refusals.{number_of}
use Rattle.refusals.specs.declared.Refusal.{Refusal}
use Rattle.refusals.proofs.Numbers.{by_number, some_number}
use Rattle.packet.specs.Walk.{broken_at, some_size, step_at}
use Rattle.packet.proofs.Walking.{Lies, found, missing, step_within}
use Rattle.packet_reader.specs.Reading.{no_message, refusal_of}
use Rattle.packet_reader.specs.Cursors.{behind_of, frame_at, framed, size_at, start_by, start_of}
use Rattle.packet_reader.specs.declared.cursor.Cursor.{Cursor}
use Rattle.packet_reader.specs.declared.cursor.Frame.{Frame}

-- the cursor of a packet that is opened
module _ (s : List ℕ) where
  pub start_refused : (refusal : Refusal) → number_of refusal ≡ refusal_of s → record { at = 0; left = 0; refusal = Some refusal } ≡ start_of s
  unfolding start_by
  start_refused refusal told =
      simp (← told, some_number refusal) (ap (λ (r : Refusal). record { at = 0; left = 0; refusal = Some r }) (sym (by_number refusal)))

  pub start_accepted : {left : ℕ} → 0 ≡ refusal_of s → left ≡ (header_in s).messages → record { at = 12; left = left; refusal = None } ≡ start_of s
  unfolding start_by
  start_accepted h e = simp (← h) (ap (λ (n : ℕ). record { at = 12; left = n; refusal = None }) e)

-- what a message that was found says of the pair that it was told by
record Framed (f : ℕ × ℕ) (found : Frame) : Type 0 where
  pub start : found.start ≡ f.0
  pub size : found.size ≡ f.1
  pub some : f.1 ≡ 0 → ⊥

is_framed : (f : ℕ × ℕ) (found : Frame) → Some found ≡ framed f → Framed f found
is_framed f found told = go (eqb f.1 0) refl
  where
    go : (b : Bool) → eqb f.1 0 ≡ b → Framed f found
    go true e =
        let z : Some found ≡ None = simp e at told in
        let no : ◌≡◌ {A = ℕ} 0 1 = cc in
        absurd (omega arith)
    go false e =
        let z : Some found ≡ Some (record { start = f.0; size = f.1 }) = simp e at told in
        let same : found ≡ record { start = f.0; size = f.1 } = cc in
        record { start = ap (λ (x : Frame). x.start) same; size = ap (λ (x : Frame). x.size) same; some = eqb-false f.1 0 e }

not_framed : (f : ℕ × ℕ) → None ≡ framed f → f.1 ≡ 0
not_framed f told = go (eqb f.1 0) refl
  where
    go : (b : Bool) → eqb f.1 0 ≡ b → f.1 ≡ 0
    go true e = eqb-true f.1 0 e
    go false e =
        let z : ◌≡◌ {A = Option Frame} None (Some (record { start = f.0; size = f.1 })) = simp e at told in
        let no : ◌≡◌ {A = ℕ} 0 1 = cc in
        absurd (omega arith)

-- the size at a cursor
module _ (s : List ℕ) (c : Cursor) where
  pub size_none : c.left ≡ 0 → 0 ≡ size_at s c
  unfolding size_at
  size_none h = simp (eq-eqb c.left 0 h)

  past : length s < c.at → step_at s c.at ≡ 0
  unfolding step_at broken_at
  past h = simp (lt-ltb (length s) (c.at + 3) (omega arith))

  pub size_is : {size : ℕ} → (c.left ≡ 0 → ⊥) → size ≡ step_at s c.at → size ≡ size_at s c
  unfolding size_at
  size_is some told = told ∙ sym (simp (ne_eqb c.left 0 some))

  pub size_past : (c.left ≡ 0 → ⊥) → length s < c.at → 0 ≡ size_at s c
  size_past some h = size_is some (sym (past h))

  -- a message has a size, lies in the packet, and is one of those left
  pub record There : Type 0 where
    pub some : 1 ≤ c.left
    pub lies : Lies s c.at (size_at s c)

  pub there : (size_at s c ≡ 0 → ⊥) → There
  unfolding size_at
  there h = go (eqb c.left 0) refl
    where
      go : (b : Bool) → eqb c.left 0 ≡ b → There
      go true e = absurd (h (simp e))
      go false e =
          let z : c.left ≡ 0 → ⊥ = eqb-false _ _ e in
          let told : size_at s c ≡ step_at s c.at = simp e in
          record { some = omega arith; lies = step_within s c.at (size_at s c) told h }

  -- the message at it
  pub frame_none : size_at s c ≡ 0 → frame_at s c ≡ no_message
  unfolding frame_at
  frame_none h = simp (eq-eqb (size_at s c) 0 h)

  pub frame_is : (size_at s c ≡ 0 → ⊥) → frame_at s c ≡ (c.at, size_at s c)
  unfolding frame_at
  frame_is h = simp (ne_eqb (size_at s c) 0 h)

  pub none-framed : None ≡ some_size (size_at s c) → None ≡ framed (frame_at s c)
  none-framed told = ap framed (sym (frame_none (missing _ told)))

  pub some_framed : (size : ℕ) → Some size ≡ some_size (size_at s c) → Some (record { start = c.at; size = size }) ≡ framed (frame_at s c)
  some_framed size told =
      let f : (size ≡ size_at s c) × (size ≡ 0 → ⊥) = found size (size_at s c) told in
      let g : framed (c.at, size) ≡ Some (record { start = c.at; size = size }) = simp (ne_eqb size 0 f.1) in
      sym g ∙ ap (λ (n : ℕ). framed (c.at, n)) f.0 ∙ ap framed (sym (frame_is (λ e. f.1 (f.0 ∙ e))))

  pub size_of : (frame_at s c).1 ≡ size_at s c
  size_of = go (eqb (size_at s c) 0) refl
    where
      go : (b : Bool) → eqb (size_at s c) 0 ≡ b → (frame_at s c).1 ≡ size_at s c
      go true e = ap (λ (f : ℕ × ℕ). f.1) (frame_none (eqb-true _ _ e)) ∙ sym (eqb-true _ _ e)
      go false e = ap (λ (f : ℕ × ℕ). f.1) (frame_is (eqb-false _ _ e))

  pub within : (frame_at s c).0 + (frame_at s c).1 ≤ length s
  within = go (eqb (size_at s c) 0) refl
    where
      go : (b : Bool) → eqb (size_at s c) 0 ≡ b → (frame_at s c).0 + (frame_at s c).1 ≤ length s
      go true e = rw (frame_none (eqb-true _ _ e)) (omega arith)
      go false e =
          let h : size_at s c ≡ 0 → ⊥ = eqb-false _ _ e in
          rw (frame_is h) (there h).lies.within

  pub stays : (frame_at s c).1 ≡ 0 → c ≡ behind_of s c
  unfolding behind_of
  stays h = sym (simp (eq-eqb (frame_at s c).1 0 h))

  pub moves : ((frame_at s c).1 ≡ 0 → ⊥) → record { at = (frame_at s c).0 + (frame_at s c).1; left = c.left - 1; refusal = c.refusal } ≡ behind_of s c
  unfolding behind_of
  moves h = sym (simp (ne_eqb (frame_at s c).1 0 h))

  -- of what was found there
  pub stays_none : None ≡ framed (frame_at s c) → c ≡ behind_of s c
  stays_none told = stays (not_framed (frame_at s c) told)

  module _ {found : Frame} (told : Some found ≡ framed (frame_at s c)) where
    abbrev is : Framed (frame_at s c) found
    is = is_framed (frame_at s c) found told

    pub found_within : found.start + found.size ≤ length s
    found_within = rw (is.start, is.size) within

    pub found_some : 1 ≤ c.left
    found_some = (there (λ e. is.some (size_of ∙ e))).some

    pub moves_found : {end : ℕ} → end ≡ found.start + found.size → record { at = end; left = c.left - 1; refusal = c.refusal } ≡ behind_of s c
    moves_found ended =
        ap (λ (n : ℕ). record { at = n; left = c.left - 1; refusal = c.refusal }) ended
        ∙ ap (λ (n : ℕ). record { at = n + found.size; left = c.left - 1; refusal = c.refusal }) is.start
        ∙ ap (λ (n : ℕ). record { at = (frame_at s c).0 + n; left = c.left - 1; refusal = c.refusal }) is.size
        ∙ moves is.some
