-- `report::put_euler_line` meets its contract: piece by piece, the counts as they were found.
use native.Mathlib.Omega.{arith}
use Rattle.texts.proofs.Rooms.{room_first, room_on, grows_on}
use Rattle.report.specs.Report.{euler}
use Rattle.report.proofs.Texts.{triangles_le}
use Rattle.report.proofs.put_euler_line.Goals as goal

pub overflow_add-more : goal.overflow_add-more
overflow_add-more c =
    let mesh = c.args.mesh.now in
    omega (arith, mesh.vertices_few, mesh.triangles_few, c.live_triangles.ensures, triangles_le mesh.rows.now mesh.triangles)

pub put_bytes-requires : goal.put_bytes-requires
put_bytes-requires c = room_first _ _ c.requires

pub put_difference-requires : goal.put_difference-requires
unfolding euler
put_difference-requires c = rw (c.live_triangles.ensures, c.live_halfedges-less.ensures) (room_first _ _ (room_on _ _ c.requires c.put_bytes.ensures))

pub put_bytes-requires-2 : goal.put_bytes-requires-2
unfolding euler
put_bytes-requires-2 c =
    room_on _ _ (room_on _ _ c.requires c.put_bytes.ensures) (rw (c.live_triangles.ensures, c.live_halfedges-less.ensures) at c.put_difference.ensures)

pub returns : goal.returns
unfolding euler
returns c =
    grows_on c.put_bytes.ensures
    (grows_on (rw (c.live_triangles.ensures, c.live_halfedges-less.ensures) at c.put_difference.ensures) c.put_bytes-2.ensures)
