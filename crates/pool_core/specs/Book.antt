-- When a pool of workers grows and shrinks. This project's own.
use Rattle.std.specs.Prelude.{Bool, ◌&&◌, ◌||◌, ◌==◌, nat_lt, if◌then◌else◌}
use Rattle.pool_core.specs.declared.book.PoolBook.{PoolBook}
use Rattle.pool_core.specs.declared.size.Size.{Size}
use Rattle.pool_core.specs.declared.size.Size.TheVariants.{More, Trim, Stay}

-- there are too few workers, or connections wait for which no worker does, and there may be more
abbrev pub needs_more : PoolBook → Bool
needs_more b = nat_lt b.spawned b.min || (nat_lt b.waiting b.backlog && nat_lt b.spawned b.max)

-- there are more workers than there must be, and one waits while no connection does
abbrev pub has_spare : PoolBook → Bool
has_spare b = nat_lt b.min b.spawned && (b.backlog == 0 && nat_lt 0 b.waiting)

-- what the pool does next
abbrev pub decision : PoolBook → Size
decision b = if needs_more b then More else if has_spare b then Trim else Stay
