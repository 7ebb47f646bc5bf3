-- What the first places of a short list hold.
use Rattle.std.proofs.Common.{◌≡◌, ℕ, ◌<◌, ◌≤◌, List, length, take, replicate, set, arith}
use Rattle.std.proofs.lemmas.List.{length-take, take-replicate}
use Rattle.std.proofs.Math.Seq.{take-set-lt}

-- of one item in each place the first ones are that item
pub repeated : {T : Type 0} (x : T) (k n : ℕ) → k ≤ n → take k (replicate n x) ≡ replicate k x
repeated x k n h = take-replicate _ _ _ h

-- an item put among the first ones is put among those that count
pub put_among : {T : Type 0} (k : ℕ) (xs : List T) (i : ℕ) (x : T) → i < length (take k xs) → take k (set xs i x) ≡ set (take k xs) i x
put_among k xs i x h =
    let l = length-take k xs in
    let below : i < k = omega arith in
    take-set-lt k xs i x below
