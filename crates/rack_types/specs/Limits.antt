-- The limits of one connection, which are this project's own.
use Rattle.rack_types.specs.declared.limits.Limits.{Limits}

-- sizes in bytes, times in milliseconds
abbrev pub stock_limits : Limits
stock_limits = record {
  head = 32768;
  lines = 64;
  body = 1048576;
  size_line = 1024;
  trailer = 8192;
  requests = 10000;
  request_ms = 30000;
  idle_ms = 20000;
  write_ms = 10000;
}
