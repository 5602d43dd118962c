-- Bytes stored one after the other.
use Rattle.std.proofs.Common.{◌≡◌, ◌≤◌, ◌<◌, ℕ, ◌+◌, List, length, drop, get_or, drop-cons, add-one, Ok, Err, refl}
use Rattle.std.proofs.Common.{arith}
use Rattle.std.proofs.lemmas.List.{drop_all}
use Rattle.zk_mem.specs.declared.fault.Fault.{Fault}
use Rattle.zk_mem.specs.Map.{MemoryMap, byte_put}
use Rattle.zk_tables.specs.Runs.{bytes_put}

pub put_on : (m n : MemoryMap) (a i : ℕ) (bs : List ℕ) → i < length bs → byte_put m (a + i) (get_or bs i 0) ≡ Ok n
    → bytes_put m (a + i) (drop i bs) ≡ bytes_put n (a + (i + 1)) (drop (i + 1) bs)
unfolding bytes_put
put_on m n a i bs h put =
    let next : a + (i + 1) ≡ (a + i) + 1 = omega arith in
    rw (next, drop-cons bs i 0, put, add-one i) refl

pub put_fault : (m : MemoryMap) (a i : ℕ) (bs : List ℕ) (e : Fault) → i < length bs
    → byte_put m (a + i) (get_or bs i 0) ≡ Err e → bytes_put m (a + i) (drop i bs) ≡ Err e
unfolding bytes_put
put_fault m a i bs e h put = rw (drop-cons bs i 0, put) refl

pub put_end : (m : MemoryMap) (a i : ℕ) (bs : List ℕ) → length bs ≤ i → bytes_put m (a + i) (drop i bs) ≡ Ok m
unfolding bytes_put
put_end m a i bs h = rw (drop_all i bs h) refl
