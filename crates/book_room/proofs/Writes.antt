-- What a message writes, part by part: an order leaves or comes, an inside's row, a symbol comes. Behind the writes the room holds
-- the book with the parts that they change.
-- Assumes nothing.
use mathlib.Core.Path.{◌≡◌, refl, ap, ap₂, ◌∙◌, sym}
use mathlib.Core.List.{List, [], ◌∷◌, ◌++◌}
use Prim.Native.Nat.{ℕ, zero, suc, ◌+◌, ◌-◌, ◌*◌, ◌<◌}
use native.Mathlib.Omega.{arith}
use lib.ListN.{length, get_or, set, take, drop, length-set}
use lib.Seq.{get_or-take, length-take-le, take-set-le}
use Rattle.book_index.specs.Chains.{Indexed, index_of}
use Rattle.book_index.specs.Changes.{Leaving, Open, without}
use Rattle.book_index.specs.Pairs.{Paired}
use Rattle.book_index.proofs.Kept.{kept_put, kept_remove}
use Rattle.book_index.proofs.Pairs.{kept_pair}
use Rattle.book.specs.Applying.{counted_apart}
use Rattle.book.specs.Tables.{Book, holding_insides, holding_marks, holding_orders, holding_unlisted}
use Rattle.book.specs.declared.tables.Inside.{Inside}
use Rattle.book_room.specs.Room.{Filled, Gone, Spare, keys_without, numbers_of, parts_of, room_of, row_of, rows_of}
use Rattle.book_room.proofs.Parts.{Sized, at_backs, at_fronts, at_index, at_keys, at_numbers, at_symbols, before_long, before_rows, get_part, put_part, read_part, rows_last, set-part, set_past}
use Rattle.book_room.proofs.Lying.{live_at, number_at, sized}

-- one of the ten numbers
module _ {n k i s f b r : List ℕ} (z : Sized n k i s f b r) where
  pub set-number : (at x : ℕ) → at < 10 → set (parts_of n k i s f b r) at x ≡ parts_of (set n at x) k i s f b r
  set-number at x h =
      let e : at ≡ 0 + at = omega arith in
      ap (λ (j : ℕ). set (parts_of n k i s f b r) j x) e ∙ set-part (at_numbers z) n at x (omega (arith, z.numbers))

-- ---- the numbers, the keys and the index of the orders

module _ {room : List ℕ} {next end : ℕ} {b : Book} (fill : Filled room next end b) where
  z : Sized (numbers_of next end b) b.keys (index_of (take b.live b.keys)) (index_of (take b.held b.fronts)) b.fronts b.backs (rows_of b.insides)
  z = sized fill

  indexed : Indexed (index_of (take b.live b.keys)) b.keys b.live
  indexed = record { few = fill.live; size = fill.keys; is = refl }

  paired : Paired (index_of (take b.held b.fronts)) b.fronts b.backs b.held
  paired = record { few = fill.held; fronts = fill.fronts; backs = fill.backs; is = refl }

  -- a room with other orders, whose index is still the old one
  abbrev between : List ℕ → ℕ → List ℕ → List ℕ
  between keys live index =
      parts_of (numbers_of next end (holding_orders b b.orders keys live)) keys index (index_of (take b.held b.fronts)) b.fronts b.backs (rows_of b.insides)

  module _ (keys : List ℕ) (live : ℕ) (size : length keys ≡ 256) {written : List ℕ} (is : written ≡ between keys live (index_of (take b.live b.keys))) where
    resized : Sized (numbers_of next end (holding_orders b b.orders keys live)) keys (index_of (take b.live b.keys)) (index_of (take b.held b.fronts)) b.fronts b.backs (rows_of b.insides)
    resized =
        record { numbers = refl; keys = size; index = z.index; symbols = z.symbols; fronts = z.fronts; backs = z.backs; rows = z.rows }

    old_index : take 765 (drop 266 written) ≡ index_of (take b.live b.keys)
    old_index =
        ap (λ (l : List ℕ). take 765 (drop 266 l)) is ∙ read_part (at_index resized) (index_of (take b.live b.keys)) 765 z.index

    new_index : {index : List ℕ} → index ≡ index_of (take live keys)
        → take 266 written ++ (index ++ drop 765 (drop 266 written)) ≡ room_of next end (holding_orders b b.orders keys live)
    new_index {index} e =
        ap (λ (l : List ℕ). take 266 l ++ (index ++ drop 765 (drop 266 l))) is
        ∙ put_part (at_index resized) (index_of (take b.live b.keys)) 765 index z.index
        ∙ ap (between keys live) e

  -- the order at a place leaves, and the last takes its place
  module _ {place : ℕ} (within : place < b.live) where
    key_at_lem : (i : ℕ) → i < 256 → get_or room (10 + i) 0 ≡ get_or b.keys i 0
    key_at_lem i h = ap (λ (l : List ℕ). get_or l (10 + i) 0) fill.is ∙ get_part (at_keys z) b.keys i (omega (arith, fill.keys))

    keys_long : length (keys_without b place) ≡ 256
    keys_long = simp length-set fill.keys

    last_is : get_or room 2 0 - 1 ≡ b.live - 1
    last_is = ap (λ (n : ℕ). n - 1) (live_at fill)

    gone-is : get_or room (10 + place) 0 ≡ get_or b.keys place 0
    gone-is = key_at_lem place (omega (arith, fill.live))

    moved_is : get_or room (10 + (get_or room 2 0 - 1)) 0 ≡ get_or b.keys (b.live - 1) 0
    moved_is = ap (λ (n : ℕ). get_or room (10 + n) 0) last_is ∙ key_at_lem (b.live - 1) (omega (arith, fill.live))

    abbrev removed : List ℕ
    removed = set (set (set room (10 + place) (get_or room (10 + (get_or room 2 0 - 1)) 0)) (10 + (get_or room 2 0 - 1)) 0) 2 (get_or room 2 0 - 1)

    removed_is : removed ≡ between (keys_without b place) (b.live - 1) (index_of (take b.live b.keys))
    removed_is =
        let k = b.keys in
        let x = get_or b.keys (b.live - 1) 0 in
        (λ j. set (set (set (fill.is j) (10 + place) (moved_is j)) (10 + last_is j) 0) 2 (last_is j))
        ∙ ap (λ (l : List ℕ). set (set l (10 + (b.live - 1)) 0) 2 (b.live - 1)) (set-part (at_keys z) k place x (omega (arith, fill.keys, fill.live)))
        ∙ ap (λ (l : List ℕ). set l 2 (b.live - 1)) (set-part (at_keys z) (set k place x) (b.live - 1) 0 (omega (arith, fill.keys, fill.live, length-set k place x)))
        ∙ set-number
        (record { numbers = refl; keys = keys_long; index = z.index; symbols = z.symbols; fronts = z.fronts; backs = z.backs; rows = z.rows })
        2 (b.live - 1) (omega arith)

    leaving : Leaving (take 765 (drop 266 removed)) (take b.live b.keys) (get_or room 2 0 - 1) place (get_or room (10 + place) 0) (get_or room (10 + (get_or room 2 0 - 1)) 0)
    leaving =
        record {
          is = old_index (keys_without b place) (b.live - 1) keys_long removed_is;
          count = length-take-le b.live b.keys (omega (arith, fill.live, fill.keys)) ∙ omega (arith, live_at fill);
          few = omega (arith, live_at fill, fill.live);
          within = omega (arith, live_at fill);
          here = get_or-take b.live b.keys place 0 within ∙ sym gone-is;
          end =
              ap (λ (n : ℕ). get_or (take b.live b.keys) n 0) last_is
              ∙ get_or-take b.live b.keys (b.live - 1) 0 (omega arith)
              ∙ sym moved_is;
        }

    pub remove_asks : (ids : List ℕ) × Leaving (take 765 (drop 266 removed)) ids (get_or room 2 0 - 1) place (get_or room (10 + place) 0) (get_or room (10 + (get_or room 2 0 - 1)) 0)
    remove_asks = (take b.live b.keys, leaving)

    pub remove_done : {index : List ℕ} → ((ids : List ℕ) → Leaving (take 765 (drop 266 removed)) ids (get_or room 2 0 - 1) place (get_or room (10 + place) 0) (get_or room (10 + (get_or room 2 0 - 1)) 0) → index ≡ index_of (without 0 place ids))
        → Gone (take 266 removed ++ (index ++ drop 765 (drop 266 removed))) next end b place (get_or room 2 0 - 1)
    remove_done is =
        let k = set b.keys place (get_or b.keys (b.live - 1) 0) in
        let now =
        kept_remove (index_of (take b.live b.keys)) b.keys b.live indexed (b.live - 1) place (omega arith) (omega arith)
        (is (take b.live b.keys) leaving) keys_long (take-set-le (b.live - 1) k (b.live - 1) 0 (omega arith))
        in
        record { is = new_index (keys_without b place) (b.live - 1) keys_long removed_is now.is; last = last_is }

  -- an order comes behind the last one
  module _ {live : ℕ} (at : live ≡ b.live) (few : live < 256) (key : ℕ) where
    put_long : length (set b.keys live key) ≡ 256
    put_long = length-set b.keys live key ∙ fill.keys

    abbrev put : List ℕ
    put = set (set room (10 + live) key) 2 (live + 1)

    put_is : put ≡ between (set b.keys live key) (live + 1) (index_of (take b.live b.keys))
    put_is =
        ap (λ (l : List ℕ). set (set l (10 + live) key) 2 (live + 1)) fill.is
        ∙ ap (λ (l : List ℕ). set l 2 (live + 1)) (set-part (at_keys z) b.keys live key (omega (arith, fill.keys)))
        ∙ set-number
        (record { numbers = refl; keys = put_long; index = z.index; symbols = z.symbols; fronts = z.fronts; backs = z.backs; rows = z.rows })
        2 (live + 1) (omega arith)

    coming : Open (take 765 (drop 266 put)) (take b.live b.keys) live
    coming =
        record {
          is = old_index (set b.keys live key) (live + 1) put_long put_is;
          count = length-take-le b.live b.keys (omega (arith, fill.live, fill.keys)) ∙ sym at;
          room = few;
        }

    pub put_asks : (ids : List ℕ) × Open (take 765 (drop 266 put)) ids live
    put_asks = (take b.live b.keys, coming)

    pub put_done : {index : List ℕ} → ((ids : List ℕ) → Open (take 765 (drop 266 put)) ids live → index ≡ index_of (ids ++ (key ∷ [])))
        → take 266 put ++ (index ++ drop 765 (drop 266 put)) ≡ room_of next end (holding_orders b b.orders (set b.keys live key) (live + 1))
    put_done is =
        let now = kept_put (index_of (take b.live b.keys)) b.keys b.live indexed key (omega arith) (is (take b.live b.keys) coming) in
        let same : index_of (take (b.live + 1) (set b.keys b.live key)) ≡ index_of (take (live + 1) (set b.keys live key)) =
        ap (λ (n : ℕ). index_of (take (n + 1) (set b.keys n key))) (sym at)
        in
        new_index (set b.keys live key) (live + 1) put_long put_is (now.is ∙ same)

  -- ---- the insides

  -- a symbol comes behind the last one
  module _ {held : ℕ} (at : held ≡ b.held) (few : held < 64) (first last : ℕ) where
    abbrev entered : List ℕ
    entered = set (set (set room (1796 + held) first) (1860 + held) last) 3 (held + 1)

    abbrev behind : List ℕ → List ℕ
    behind symbols =
        parts_of (numbers_of next end (holding_insides b b.insides (set b.fronts held first) (set b.backs held last) (held + 1)))
        b.keys (index_of (take b.live b.keys)) symbols (set b.fronts held first) (set b.backs held last) (rows_of b.insides)

    fronts_long : length (set b.fronts held first) ≡ 64
    fronts_long = length-set b.fronts held first ∙ fill.fronts

    backs_long : length (set b.backs held last) ≡ 64
    backs_long = length-set b.backs held last ∙ fill.backs

    with_symbol : {n backs : List ℕ} → length n ≡ 10 → length backs ≡ 64
        → Sized n b.keys (index_of (take b.live b.keys)) (index_of (take b.held b.fronts)) (set b.fronts held first) backs (rows_of b.insides)
    with_symbol numbers backs =
        record { numbers = numbers; keys = z.keys; index = z.index; symbols = z.symbols; fronts = fronts_long; backs = backs; rows = z.rows }

    grown : Sized (numbers_of next end (holding_insides b b.insides (set b.fronts held first) (set b.backs held last) (held + 1)))
        b.keys (index_of (take b.live b.keys)) (index_of (take b.held b.fronts)) (set b.fronts held first) (set b.backs held last) (rows_of b.insides)
    grown = with_symbol refl backs_long

    entered_is : entered ≡ behind (index_of (take b.held b.fronts))
    entered_is =
        ap (λ (l : List ℕ). set (set (set l (1796 + held) first) (1860 + held) last) 3 (held + 1)) fill.is
        ∙ ap (λ (l : List ℕ). set (set l (1860 + held) last) 3 (held + 1)) (set-part (at_fronts z) b.fronts held first (omega (arith, fill.fronts)))
        ∙ ap (λ (l : List ℕ). set l 3 (held + 1))
        (set-part (at_backs (with_symbol {n = numbers_of next end b} {backs = b.backs} refl fill.backs)) b.backs held last (omega (arith, fill.backs)))
        ∙ set-number (with_symbol {n = numbers_of next end b} {backs = set b.backs held last} refl backs_long) 3 (held + 1) (omega arith)

    entering : Open (take 765 (drop 1031 entered)) (take b.held b.fronts) held
    entering =
        record {
          is =
              ap (λ (l : List ℕ). take 765 (drop 1031 l)) entered_is
              ∙ read_part (at_symbols grown) (index_of (take b.held b.fronts)) 765 z.symbols;
          count = length-take-le b.held b.fronts (omega (arith, fill.held, fill.fronts)) ∙ sym at;
          room = omega arith;
        }

    pub enter_asks : (ids : List ℕ) × Open (take 765 (drop 1031 entered)) ids held
    enter_asks = (take b.held b.fronts, entering)

    pub enter_done : {symbols : List ℕ} → ((ids : List ℕ) → Open (take 765 (drop 1031 entered)) ids held → symbols ≡ index_of (ids ++ (first ∷ [])))
        → take 1031 entered ++ (symbols ++ drop 765 (drop 1031 entered)) ≡ room_of next end (holding_insides b b.insides (set b.fronts held first) (set b.backs held last) (held + 1))
    enter_done {symbols} is =
        let now =
        kept_pair (index_of (take b.held b.fronts)) b.fronts b.backs b.held paired first last (omega arith) (is (take b.held b.fronts) entering)
        in
        let same : index_of (take (b.held + 1) (set b.fronts b.held first)) ≡ index_of (take (held + 1) (set b.fronts held first)) =
        ap (λ (n : ℕ). index_of (take (n + 1) (set b.fronts n first))) (sym at)
        in
        ap (λ (l : List ℕ). take 1031 l ++ (symbols ++ drop 765 (drop 1031 l))) entered_is
        ∙ put_part (at_symbols grown) (index_of (take b.held b.fronts)) 765 symbols z.symbols
        ∙ ap behind (now.is ∙ same)

-- ---- an inside's row

abbrev pub six : List ℕ → ℕ → Inside → List ℕ
six l at i =
    set (set (set (set (set (set l at i.ask) (at + 1) i.bid) (at + 2) i.time) (at + 3) i.askvolume) (at + 4) i.bidvolume) (at + 5) i.unsolicited

-- past what stands before
module _ (a : List ℕ) (at : ℕ) where
  past : (l : List ℕ) (k x : ℕ) → set (a ++ l) (length a + at + k) x ≡ a ++ set l (at + k) x
  past l k x =
      let e : length a + at + k ≡ length a + (at + k) = omega arith in
      ap (λ (j : ℕ). set (a ++ l) j x) e ∙ set_past a l (at + k) x

  six_past : (l : List ℕ) (i : Inside) → six (a ++ l) (length a + at) i ≡ a ++ six l at i
  six_past l i =
      let m = length a + at in
      ap (λ (r : List ℕ). set (set (set (set (set r (m + 1) i.bid) (m + 2) i.time) (m + 3) i.askvolume) (m + 4) i.bidvolume) (m + 5) i.unsolicited) (set_past a l at i.ask)
      ∙ ap (λ (r : List ℕ). set (set (set (set r (m + 2) i.time) (m + 3) i.askvolume) (m + 4) i.bidvolume) (m + 5) i.unsolicited) (past _ 1 i.bid)
      ∙ ap (λ (r : List ℕ). set (set (set r (m + 3) i.askvolume) (m + 4) i.bidvolume) (m + 5) i.unsolicited) (past _ 2 i.time)
      ∙ ap (λ (r : List ℕ). set (set r (m + 4) i.bidvolume) (m + 5) i.unsolicited) (past _ 3 i.askvolume)
      ∙ ap (λ (r : List ℕ). set r (m + 5) i.unsolicited) (past _ 4 i.bidvolume)
      ∙ past _ 5 i.unsolicited

six_rows : (is : List Inside) (place : ℕ) (i : Inside) → place < length is → six (rows_of is) (6 * place) i ≡ rows_of (set is place i)
unfolding rows_of
six_rows [] place i h = absurd (omega arith)
six_rows (x ∷ is) zero i h = refl
six_rows (x ∷ is) (suc place) i h =
    let e : 6 * suc place ≡ 6 + 6 * place = omega arith in
    ap (λ (n : ℕ). six (row_of x ++ rows_of is) n i) e
    ∙ six_past (row_of x) (6 * place) (rows_of is) i
    ∙ ap (λ (l : List ℕ). row_of x ++ l) (six_rows is place i (omega arith))

module _ {room : List ℕ} {next end : ℕ} {b : Book} (fill : Filled room next end b) where
  pub write_done : (place : ℕ) (i : Inside) → place < 64
      → six room (1924 + 6 * place) i ≡ room_of next end (holding_insides b (set b.insides place i) b.fronts b.backs b.held)
  write_done place i h =
      let z = sized fill in
      let front = before_rows z in
      ap (λ (l : List ℕ). six l (1924 + 6 * place) i) (fill.is ∙ rows_last z (rows_of b.insides))
      ∙ ap (λ (n : ℕ). six (front ++ rows_of b.insides) (n + 6 * place) i) (sym (before_long z))
      ∙ six_past front (6 * place) (rows_of b.insides) i
      ∙ ap (λ (l : List ℕ). front ++ l) (six_rows b.insides place i (omega (arith, fill.insides)))
      ∙ sym (rows_last z (rows_of (set b.insides place i)))

  -- behind the row of an inside that comes there is still a place for its symbol
  pub spare : {held : ℕ} (i : Inside) {now : List ℕ} → held ≡ b.held → held < 64
      → now ≡ room_of next end (holding_insides b (set b.insides held i) b.fronts b.backs b.held)
      → Spare now next end (holding_insides b (set b.insides held i) b.fronts b.backs b.held) held
  spare {held} i at few written =
      record {
        filled =
            record {
              is = written;
              live = fill.live;
              held = fill.held;
              keys = fill.keys;
              insides = length-set b.insides held i ∙ fill.insides;
              fronts = fill.fronts;
              backs = fill.backs;
            };
        at = at;
        few = few;
      }

  -- the code
  pub code_done : (code : ℕ) → set room 4 code ≡ room_of next end (holding_marks b code b.faults)
  code_done code = ap (λ (l : List ℕ). set l 4 code) fill.is ∙ set-number (sized fill) 4 code (omega arith)

  -- one more that is counted apart
  pub apart_at : get_or room 9 0 ≡ b.unlisted.count
  apart_at = number_at fill 9 (omega arith)

  pub apart_done : set room 9 (get_or room 9 0 + 1) ≡ room_of next end (holding_unlisted b (counted_apart b.unlisted))
  apart_done =
      ap₂ (λ (l : List ℕ) (n : ℕ). set l 9 (n + 1)) fill.is apart_at ∙ set-number (sized fill) 9 (b.unlisted.count + 1) (omega arith)
