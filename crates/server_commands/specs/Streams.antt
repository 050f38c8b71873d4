-- The contents of the streams of a server.
use Rattle.std.specs.Prelude.{List, map}
use Rattle.std.specs.Global.{Vec}
use Rattle.server_store.specs.declared.stream.Stream.{Stream}
use Rattle.server_store.specs.Stream.{Seen, seen_stream}

-- their contents, in the order of their keys
abbrev pub seen_streams : Vec Stream → List Seen
seen_streams streams = map seen_stream streams.items
