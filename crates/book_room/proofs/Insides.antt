-- The insides that a room holds are those of the tables: six numbers each, and the symbol by its two numbers.
-- Assumes nothing.
use mathlib.Core.Path.{◌≡◌, refl, ap, ap₂, ◌∙◌, sym, subst}
use mathlib.Core.Bool.{Bool, true, false, not, ◌||◌}
use mathlib.Core.List.{List, [], ◌∷◌, ◌++◌}
use mathlib.Core.Logic.{by_cases}
use Prim.Native.Nat.{ℕ, zero, suc, ◌+◌, ◌*◌, ◌≤◌, ◌<◌}
use native.Mathlib.Decide.{dec_lt}
use native.Mathlib.Omega.{arith}
use borrow.Author.Tests.{eqb-true}
use lib.Dec.{eqb, lit<}
use lib.ListN.{length, get_or, drop, take, get_or-append, get_or-eq_default, length-drop, length-map, take-append-drop}
use lib.Seq.{get_or-append-add, take_all}
use Rattle.wire.specs.Number.{Bytes}
use Rattle.wire.proofs.Parts.{part_front}
use Rattle.wire.proofs.Place.{be-part, part-is}
use Rattle.fields.specs.Rules.{good_symbol, good_unsolicited, is_printable}
use Rattle.fields.specs.Tests.{either, first_all}
use Rattle.fields.proofs.Tests.{all_fail, and_left, in_range}
use Rattle.book.specs.Lookup.{back_of, front_of}
use Rattle.book.specs.Rule.{GoodInside, Sound}
use Rattle.book.specs.Tables.{Book, Tables, backs_of, fronts_of, gone, no_inside, rep}
use Rattle.book.specs.declared.tables.Inside.{Inside}
use Rattle.book.proofs.Holding.{get_places}
use Rattle.book.proofs.Keeping.{kept_rep}
use Rattle.book.proofs.Types.{no}
use Rattle.book.proofs.Under.{back_at, front_at}
use Rattle.book_room.specs.Room.{Lies, inside_at, insides_from, insides_in, room_of, row_of, rows_of, symbol_by}
use Rattle.book_room.proofs.Lying.{filled, held_at, sized}
use Rattle.book_room.proofs.Parts.{at_backs, at_fronts, before_long, before_rows, get_part, rows_last}

-- ---- a symbol by its two numbers

bytes_by_lem : (s : List ℕ) → ((i : ℕ) → get_or s i 0 < 256) → Bytes s
bytes_by_lem [] h = tt
bytes_by_lem (b ∷ s) h = (h 0, bytes_by_lem s (λ i. h (suc i)))

get_d_any : (xs : List Inside) (i : ℕ) (d e : Inside) → i < length xs → get_or xs i d ≡ get_or xs i e
get_d_any [] i d e h = absurd (omega arith)
get_d_any (x ∷ xs) zero d e h = refl
get_d_any (x ∷ xs) (suc i) d e h = get_d_any xs i d e (omega arith)

module _ (i : Inside) (good : GoodInside i) where
  abbrev text : List ℕ
  text = i.symbol

  printed : (k : ℕ) → k < 14 → is_printable (get_or text k 0) ≡ true
  unfolding good_symbol
  printed k h = by (is_printable (get_or text k 0)) refl
    where
      by : (b : Bool) → is_printable (get_or text k 0) ≡ b → b ≡ true
      by true e = refl
      by false e = absurd (no (sym (all_fail is_printable text k 14 h e) ∙ and_left (first_all is_printable 14 text) (not (eqb (get_or text 0 0) 0x20)) good.symbol))

  small : (k : ℕ) → get_or text k 0 < 256
  small k =
      by_cases (dec_lt k 14)
      (λ h. let r = in_range 0x20 0x7E (get_or text k 0) (printed k h) in omega arith)
      (λ h. subst (λ (n : ℕ). n < 256) (sym (get_or-eq_default text 0 (omega (arith, good.long)))) (lit< tt))

  pub symbol_by_lem : symbol_by (front_of text) (back_of text) ≡ text
  symbol_by_lem =
      let bytes = bytes_by_lem text small in
      let end : length (drop 6 text) ≤ 8 = simp length-drop (omega (arith, good.long)) in
      ap₂ (λ (a b : List ℕ). take 6 a ++ b) (be-part text 0 8 bytes (omega (arith, good.long))) (be-part text 6 8 bytes (omega (arith, good.long)))
      ∙ ap₂ ◌++◌ (part_front text 0 8 6 (omega arith) ∙ part-is text 0 6 (omega (arith, good.long))) (part-is text 6 8 (omega (arith, good.long)) ∙ take_all 8 (drop 6 text) end)
      ∙ take-append-drop 6 text

-- Y or N
either_small : (x : ℕ) → good_unsolicited x ≡ true → x < 256
unfolding either
either_small x good = by (eqb x 0x59) refl
  where
    by : (b : Bool) → eqb x 0x59 ≡ b → x < 256
    by true e = let r = eqb-true x 0x59 e in omega arith
    by false e = let r = eqb-true x 0x4E (sym (ap (λ (b : Bool). b || eqb x 0x4E) e) ∙ good) in omega arith

-- ---- one inside, then all

-- so many from a place on are those of a list, if each is
from_is : (room : List ℕ) (place : ℕ) (xs : List Inside) → ((i : ℕ) → i < length xs → inside_at room (place + i) ≡ get_or xs i gone) → insides_from room place (length xs) ≡ xs
unfolding insides_from
from_is room place [] h = refl
from_is room place (x ∷ xs) h =
    let first : place + 0 ≡ place = omega arith in
    ap₂ (λ (a : Inside) (l : List Inside). a ∷ l)
    (ap (inside_at room) (sym first) ∙ h 0 (omega arith))
    (from_is room (suc place) xs (λ i l. let e : suc place + i ≡ place + suc i = omega arith in ap (inside_at room) e ∙ h (suc i) (omega arith)))

-- the numbers of the inside at a place
row_get : (is : List Inside) (p j : ℕ) → p < length is → j < 6 → get_or (rows_of is) (6 * p + j) 0 ≡ get_or (row_of (get_or is p gone)) j 0
unfolding rows_of
row_get [] p j h l = absurd (omega arith)
row_get (i ∷ is) zero j h l =
    let e : 6 * 0 + j ≡ j = omega arith in
    ap (λ (k : ℕ). get_or (row_of i ++ rows_of is) k 0) e ∙ get_or-append (row_of i) (rows_of is) 0 j l
row_get (i ∷ is) (suc p) j h l =
    let e : 6 * suc p + j ≡ 6 + (6 * p + j) = omega arith in
    ap (λ (k : ℕ). get_or (row_of i ++ rows_of is) k 0) e ∙ get_or-append-add (row_of i) (rows_of is) (6 * p + j) 0 ∙ row_get is p j (omega arith) l

module _ {room : List ℕ} {next end : ℕ} {b : Book} (lies : Lies room next end b) where
  row_in : (p j : ℕ) → p < 64 → j < 6 → get_or room (1924 + 6 * p + j) 0 ≡ get_or (row_of (get_or b.insides p gone)) j 0
  row_in p j h l =
      let z = sized (filled lies) in
      let e : 1924 + 6 * p + j ≡ length (before_rows z) + (6 * p + j) = omega (arith, before_long z) in
      ap₂ (λ (r : List ℕ) (k : ℕ). get_or r k 0) (lies.is ∙ rows_last z (rows_of b.insides)) e
      ∙ get_or-append-add (before_rows z) (rows_of b.insides) (6 * p + j) 0
      ∙ row_get b.insides p j (omega (arith, lies.kept.insides)) l

  front_in_lem : (p : ℕ) → p < 64 → get_or room (1796 + p) 0 ≡ get_or b.fronts p 0
  front_in_lem p h = ap (λ (r : List ℕ). get_or r (1796 + p) 0) lies.is ∙ get_part (at_fronts (sized (filled lies))) b.fronts p (omega (arith, lies.kept.fronts))

  back_in : (p : ℕ) → p < 64 → get_or room (1860 + p) 0 ≡ get_or b.backs p 0
  back_in p h = ap (λ (r : List ℕ). get_or r (1860 + p) 0) lies.is ∙ get_part (at_backs (sized (filled lies))) b.backs p (omega (arith, lies.kept.backs))

  -- the inside at a place, but for its symbol's bytes
  pub inside_in : (p : ℕ) → p < 64
      → inside_at room p
      ≡ record { ask = (get_or b.insides p gone).ask; bid = (get_or b.insides p gone).bid; time = (get_or b.insides p gone).time; askvolume = (get_or b.insides p gone).askvolume; bidvolume = (get_or b.insides p gone).bidvolume; symbol = symbol_by (get_or b.fronts p 0) (get_or b.backs p 0); unsolicited = (get_or b.insides p gone).unsolicited }
  inside_in p h =
      let first : 1924 + 6 * p ≡ 1924 + 6 * p + 0 = omega arith in
      let ask : get_or room (1924 + 6 * p) 0 ≡ (get_or b.insides p gone).ask = ap (λ (k : ℕ). get_or room k 0) first ∙ row_in p 0 h (omega arith) in
      λ i.
      record {
        ask = ask i;
        bid = row_in p 1 h (omega arith) i;
        time = row_in p 2 h (omega arith) i;
        askvolume = row_in p 3 h (omega arith) i;
        bidvolume = row_in p 4 h (omega arith) i;
        symbol = symbol_by (front_in_lem p h i) (back_in p h i);
        unsolicited = row_in p 5 h (omega arith) i;
      }

module _ (next end : ℕ) (t : Tables) (sound : Sound t) where
  abbrev room : List ℕ
  room = room_of next end (rep t)

  lies : Lies room next end (rep t)
  lies = record { kept = kept_rep t sound; is = refl }

  one : (i : ℕ) → i < length t.insides → inside_at room i ≡ get_or t.insides i gone
  one i h =
      let few : i < 64 = omega (arith, sound.scarce) in
      let x : Inside = get_or t.insides i gone in
      let there : get_or (rep t).insides i gone ≡ x = get_places 64 no_inside t.insides i gone h in
      let good : GoodInside x = subst GoodInside (get_d_any t.insides i no_inside gone h) (sound.insides i h) in
      let f : get_or (rep t).fronts i 0 ≡ front_of x.symbol = get_places 64 0 (fronts_of t.insides) i 0 (omega (arith, length-map t.insides (λ y. front_of y.symbol))) ∙ front_at sound i in
      let l : get_or (rep t).backs i 0 ≡ back_of x.symbol = get_places 64 0 (backs_of t.insides) i 0 (omega (arith, length-map t.insides (λ y. back_of y.symbol))) ∙ back_at sound i in
      let s : symbol_by (get_or (rep t).fronts i 0) (get_or (rep t).backs i 0) ≡ x.symbol = ap₂ symbol_by f l ∙ symbol_by_lem x good in
      inside_in lies i few
      ∙ (λ j. record { ask = (there j).ask; bid = (there j).bid; time = (there j).time; askvolume = (there j).askvolume; bidvolume = (there j).bidvolume; symbol = s j; unsolicited = (there j).unsolicited })

  pub inside_at_lem : (i : ℕ) → i < length t.insides → inside_at room i ≡ get_or (rep t).insides i gone
  inside_at_lem i h = one i h ∙ sym (get_places 64 no_inside t.insides i gone h)

  -- a good flag is a byte
  pub flag_small : (i : ℕ) → i < length t.insides → (inside_at room i).unsolicited < 256
  flag_small i h =
      let good : GoodInside (get_or t.insides i gone) = subst GoodInside (get_d_any t.insides i no_inside gone h) (sound.insides i h) in
      subst (λ (x : Inside). x.unsolicited < 256) (sym (one i h)) (either_small (get_or t.insides i gone).unsolicited good.unsolicited)

  pub insides_in_lem : insides_in room ≡ t.insides
  insides_in_lem = ap (insides_from room 0) (held_at (filled lies)) ∙ from_is room 0 t.insides (λ i h. let e : 0 + i ≡ i = omega arith in ap (inside_at room) e ∙ one i h)
