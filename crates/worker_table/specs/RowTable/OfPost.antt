-- The command that is sent for a row in memory.
use Rattle.std.specs.Prelude.{List, map}
use Rattle.worker_table.specs.RowTable.OfRow.{row_of, rows_of}
use Rattle.worker_table.specs.RowTable.Posts as posts
use Rattle.worker_table.specs.declared.row_table.post.Post.{Post}
use Rattle.worker_table.specs.declared.row_table.post.PostedRow.{PostedRow}
use Rattle.worker_table.specs.declared.row_table.row.Row.{Row}

-- the key, the command and the query of the post
abbrev pub post_of : Post → posts.Post
post_of p = record { key = (p.first, p.second); command = p.command.items; question = p.question.items }

-- the row, its command and its query
abbrev pub posted_of : PostedRow → posts.Posted
posted_of p = (row_of p.row, (p.command.items, p.question.items))

-- the rows, commands and queries, in order
abbrev pub all_posted : List PostedRow → List posts.Posted
all_posted ps = map posted_of ps

-- the rows and the posts, in order
abbrev pub stored_of : List Row → List Post → posts.Stored
stored_of rs ps = record { rows = rows_of rs; posts = map post_of ps }
